-- How the fault of a file is printed.
use Rattle.std.specs.Prelude.{ℕ, List, codes}
use Rattle.srmt_outside.specs.declared.file_fault.FileFault.{FileFault}
use Rattle.srmt_outside.specs.declared.file_fault.FileFault.TheVariants.{Failed, TooLong, Memory}

abbrev pub text_of : FileFault → List ℕ
text_of Failed = codes "the file failed"
text_of TooLong = codes "the file is too long"
text_of Memory = codes "out of memory"
