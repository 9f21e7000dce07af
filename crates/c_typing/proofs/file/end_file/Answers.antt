use Rattle.std.proofs.Common.{List}
use Rattle.c_typed.specs.declared.program.TextObject.{TextObject}
use Rattle.c_known.specs.Gives.{IsSame}
use Rattle.c_program.specs.Whole.{AreStatics, IsFile}
use Rattle.c_typing.proofs.Spine.{told-on, ended-by, statics_asked, file_with, texts_asked, file_of_texts}
use Rattle.c_typing.proofs.file.end_file.Goals as goal

pub returns-in_err-statics : goal.returns-in_err-statics
returns-in_err-statics c fs are =
    told-on AreStatics IsFile c.args.known.now _ _ c.in_err-statics.field-0.0 statics_asked (file_with fs) c.from_residual.result c.in_err-statics.ensures c.from_residual.ensures.1

pub returns-in_err-texts : goal.returns-in_err-texts
returns-in_err-texts c fs are =
    told-on (IsSame {A = List TextObject}) IsFile c.args.known.now _ _ c.in_err-texts.field-0.0 texts_asked (file_of_texts fs)
    c.from_residual-in_err-texts.result c.in_err-texts.ensures c.from_residual-in_err-texts.ensures.1

pub returns : goal.returns
returns c fs are = ended-by c.args.known.now c.args.functions c.in_ok-statics.statics c.in_ok-texts.texts fs are c.in_ok-statics.ensures c.in_ok-texts.ensures
