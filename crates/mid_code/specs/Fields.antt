-- The fields of an instruction, in the order in which they are written.
use Rattle.std.specs.Prelude.{List, [], ◌∷◌, Option}
use Rattle.std.specs.List.{cons_option}
use Rattle.mid_code.specs.declared.program.RegisterKind.TheVariants.{Number, Address}
pub use Rattle.mid_code.specs.declared.field.Field.{Field}
pub use Rattle.mid_code.specs.declared.field.Field.TheVariants.{Writes, Reads, Passes, Value, Operator, Comparison, AnyType, ArithmeticType, Negated, Scale, Cells, StaticObject, Callable, TypeNumber, Beginning, Target}
pub use Rattle.mid_code.specs.declared.field.Wanted.{Wanted}
pub use Rattle.mid_code.specs.declared.field.Wanted.TheVariants.{Any, Kind, Like}
use Rattle.mid_code.specs.declared.mid.Mid.{Mid}
use Rattle.mid_code.specs.declared.mid.Mid.TheVariants.{Const, Move, Arith, Conv, PtrAdd, PtrDiff, PtrCmp, GlobAddr, FunAddr, Load, Store, VLoad, VStore, Open, Close, Jump, JumpZ, JumpN, Turn, Call, CallPtr, Return, Put, Get, Exit}

abbrev pub number : Wanted
number = Kind Number

abbrev pub address : Wanted
address = Kind Address

abbrev pub fields : Mid → List Field
fields (Const target value) = Writes target Any ∷ Value value target ∷ []
fields (Move target source) = Writes target Any ∷ Reads source (Like target) ∷ []
fields (Arith op ty target left right) = Operator op ∷ ArithmeticType ty ∷ Writes target number ∷ Reads left number ∷ Reads right number ∷ []
fields (Conv from to target source) = AnyType from ∷ AnyType to ∷ Writes target number ∷ Reads source number ∷ []
fields (PtrAdd target pointer index ty negated scale) =
    Writes target address ∷ Reads pointer address ∷ Reads index number ∷ AnyType ty ∷ Negated negated ∷ Scale scale ∷ []
fields (PtrDiff target left right scale) = Writes target number ∷ Reads left address ∷ Reads right address ∷ Scale scale ∷ []
fields (PtrCmp op target left right) = Comparison op ∷ Writes target number ∷ Reads left address ∷ Reads right address ∷ []
fields (GlobAddr target object) = Writes target address ∷ StaticObject object ∷ []
fields (FunAddr target function) = Writes target number ∷ Callable function ∷ []
fields (Load target pointer) = Writes target Any ∷ Reads pointer address ∷ []
fields (Store pointer source) = Reads pointer address ∷ Reads source Any ∷ []
fields (VLoad target pointer) = Writes target Any ∷ Reads pointer address ∷ []
fields (VStore pointer source) = Reads pointer address ∷ Reads source Any ∷ []
fields (Open target cells) = Writes target address ∷ Cells cells ∷ []
fields (Close place) = Beginning place ∷ []
fields (Jump place) = Target place ∷ []
fields (JumpZ source place) = Reads source Any ∷ Target place ∷ []
fields (JumpN source place) = Reads source Any ∷ Target place ∷ []
fields Turn = []
fields (Call target function args) = Writes target Any ∷ Callable function ∷ Passes args ∷ []
fields (CallPtr target callee ty args) = Writes target Any ∷ Reads callee number ∷ TypeNumber ty ∷ Passes args ∷ []
fields (Return source) = Reads source Any ∷ []
fields (Put source) = Reads source number ∷ []
fields (Get target) = Writes target number ∷ []
fields (Exit source) = Reads source number ∷ []

-- those that are there of a row, in order
abbrev pub present : List (Option Field) → List Field
present [] = []
present (field ∷ rest) = cons_option field (present rest)
