-- A program: the functions of both files behind one another, and what stands beside them.
use Rattle.std.proofs.Common.{◌≡◌, inr, List, [], ◌++◌, length, map, Result, Ok, Err, refl, sym, ◌∙◌, ap, subst}
use Rattle.srmt_base.specs.declared.part.Part.TheVariants.{Protected, Binary}
use Rattle.mid_code.specs.declared.program.MidFunction.{MidFunction}
use Rattle.mid_code.specs.declared.program.MidProgram.{MidProgram}
use Rattle.c_types.specs.declared.type_ref.TypeRef.{TypeRef}
use Rattle.c_types.specs.declared.type_ref.Row.{Row}
use Rattle.c_types.specs.Types.{CType}
use Rattle.c_types.specs.Table.{type_at}
use Rattle.c_typed.specs.declared.program.TypedProgram.{TypedProgram}
use Rattle.c_typed.specs.Statements.{Program}
use Rattle.c_typed.specs.StatementViews.{program_view}
use Rattle.source_meaning.specs.Start.{objects_at_start}
use Rattle.lower.specs.declared.refusal.LowerRefusal.{LowerRefusal}
use Rattle.lower.specs.declared.refusal.LowerRefusal.TheVariants.{Memory}
use Rattle.lower.specs.Expressions.{number_of}
use Rattle.lower.specs.Programs.{Lowered, LoweredProgram, Each, IsFunction, lowered_functions, lowered, with_first, with_others, types_of_program, type_of_function, shortened}
use Rattle.lower.specs.Functions.{AreTypes, GivesFunctions, GivesProgram}
use Rattle.lower.proofs.LoweredFunctions.{each-append, functions_counted}

memory-program : (whole : Result LoweredProgram LowerRefusal) (told : LowerRefusal) → told ≡ Memory → GivesProgram whole (Err told)
memory-program (Ok found) told is = is
memory-program (Err refusal) told is = inr is

-- want of memory is always an answer
pub program-memory : (p : Program) (r : Result MidProgram LowerRefusal) → r ≡ Err Memory → GivesProgram (lowered p) r
program-memory p r is = subst (GivesProgram (lowered p)) (sym is) (memory-program (lowered p) Memory refl)

-- what stands beside the functions
pub record StandsBeside (p : Program) (types : List CType) (functions : List MidFunction) (x : MidProgram) : Type 0 where
  pub types_are : x.types ≡ map type_of_function types
  pub counted : x.main_functions ≡ length p.main_file.functions
  pub main_is : x.main ≡ number_of p p.main
  pub main_objects : x.main_statics ≡ map shortened (objects_at_start p Protected)
  pub binary_objects : x.binary_statics ≡ map shortened (objects_at_start p Binary)
  pub functions_are : x.functions ≡ functions

module _ {K : Type 0} (keys : K → List TypeRef) (rows : List Row) (p : Program) where
  -- ---- refusals

  first-refused : (old new : List MidFunction) (a : Result (List Lowered × List CType) LowerRefusal) (told : LowerRefusal)
      → GivesFunctions keys rows old new a (Err told) → GivesProgram (with_first p a) (Err told)
  first-refused old new (Ok found) told h = memory-program (with_first p (Ok found)) told h
  first-refused old new (Err refusal) told h = h

  others-refused : (old new : List MidFunction) (first : List Lowered) (b : Result (List Lowered × List CType) LowerRefusal) (told : LowerRefusal)
      → GivesFunctions keys rows old new b (Err told) → GivesProgram (with_others p first b) (Err told)
  others-refused old new first (Ok found) told h = memory-program (with_others p first (Ok found)) told h
  others-refused old new first (Err refusal) told h = h

  -- what the functions of the binary file give, whatever the types so far are called
  abbrev pub Others : List MidFunction → List MidFunction → K → Result K LowerRefusal → Type 0
  Others mid new known result =
      (types : List CType) → AreTypes rows (keys known) types
      → GivesFunctions keys rows mid new (lowered_functions p Binary p.binary_file.functions types) result

  both-refused : (old mid new : List MidFunction) (known : K) (a : Result (List Lowered × List CType) LowerRefusal) (told : LowerRefusal)
      → GivesFunctions keys rows old mid a (Ok known) → Others mid new known (Err told) → GivesProgram (with_first p a) (Err told)
  both-refused old mid new known (Ok found) told h others =
      others-refused mid new found.0 (lowered_functions p Binary p.binary_file.functions found.1) told (others found.1 h.1)
  both-refused old mid new known (Err refusal) told h others = absurd h

  pub refused-first : (old new : List MidFunction) (told : LowerRefusal) (r : Result MidProgram LowerRefusal) → r ≡ Err told
      → GivesFunctions keys rows old new (lowered_functions p Protected p.main_file.functions (types_of_program p)) (Err told) → GivesProgram (lowered p) r
  unfolding lowered
  refused-first old new told r is h =
      subst (GivesProgram (lowered p)) (sym is)
      (first-refused old new (lowered_functions p Protected p.main_file.functions (types_of_program p)) told h)

  pub refused-others : (old mid new : List MidFunction) (known : K) (told : LowerRefusal) (r : Result MidProgram LowerRefusal) → r ≡ Err told
      → GivesFunctions keys rows old mid (lowered_functions p Protected p.main_file.functions (types_of_program p)) (Ok known)
      → Others mid new known (Err told) → GivesProgram (lowered p) r
  unfolding lowered
  refused-others old mid new known told r is h others =
      subst (GivesProgram (lowered p)) (sym is)
      (both-refused old mid new known (lowered_functions p Protected p.main_file.functions (types_of_program p)) told h others)

  -- ---- a program

  given-others : (first : List Lowered) (mid new : List MidFunction) (known : K) (b : Result (List Lowered × List CType) LowerRefusal) (x : MidProgram)
      → Each IsFunction first mid → GivesFunctions keys rows mid new b (Ok known) → StandsBeside p (map (type_at rows) (keys known)) new x
      → GivesProgram (with_others p first b) (Ok x)
  given-others first mid new known (Ok found) x each h s = record {
    types = s.types_are ∙ ap (map type_of_function) h.1.are;
    main_functions = s.counted;
    main = s.main_is;
    main_statics = s.main_objects;
    binary_statics = s.binary_objects;
    functions =
        subst (Each IsFunction (first ++ found.0)) (sym (s.functions_are ∙ h.0.is)) (each-append IsFunction first found.0 mid h.0.more each h.0.each);
  }
  given-others first mid new known (Err refusal) x each h s = absurd h

  given-both : (mid new : List MidFunction) (between known : K) (a : Result (List Lowered × List CType) LowerRefusal) (x : MidProgram)
      → GivesFunctions keys rows [] mid a (Ok between) → Others mid new between (Ok known) → StandsBeside p (map (type_at rows) (keys known)) new x
      → GivesProgram (with_first p a) (Ok x)
  given-both mid new between known (Ok found) x h others s =
      given-others found.0 mid new known (lowered_functions p Binary p.binary_file.functions found.1) x
      (subst (Each IsFunction found.0) (sym h.0.is) h.0.each) (others found.1 h.1) s
  given-both mid new between known (Err refusal) x h others s = absurd h

  pub program-given : (old mid new : List MidFunction) (between known : K) (x : MidProgram) → old ≡ []
      → GivesFunctions keys rows old mid (lowered_functions p Protected p.main_file.functions (types_of_program p)) (Ok between)
      → Others mid new between (Ok known) → StandsBeside p (map (type_at rows) (keys known)) new x → GivesProgram (lowered p) (Ok x)
  unfolding lowered
  program-given old mid new between known x none h others s =
      given-both mid new between known (lowered_functions p Protected p.main_file.functions (types_of_program p)) x
      (subst
      (λ (l : List MidFunction). GivesFunctions keys rows l mid (lowered_functions p Protected p.main_file.functions (types_of_program p)) (Ok between))
      none h) others s

-- ---- the program of the code

pub main-counted : (p : TypedProgram) → length p.main_file.functions ≡ length (program_view p).main_file.functions
unfolding program_view
main-counted p = functions_counted (type_at p.types) p.main_file (program_view p).main_file refl

pub main-entity : (p : TypedProgram) → p.main ≡ (program_view p).main
unfolding program_view
main-entity p = refl
