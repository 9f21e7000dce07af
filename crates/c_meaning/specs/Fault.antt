-- The texts of faults.
use Rattle.std.specs.Prelude.{ℕ, List, codes}
use Rattle.c_meaning.specs.declared.fault.MeaningFault.{MeaningFault}
use Rattle.c_meaning.specs.declared.fault.MeaningFault.TheVariants.{Write, Memory}

abbrev pub text_of : MeaningFault → List ℕ
text_of Write = codes "an event was not written"
text_of Memory = codes "out of memory"
