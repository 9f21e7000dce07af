-- Functions lowered one after another, and the program that they make.
use Rattle.std.proofs.Common.{◌≡◌, inr, ℕ, ◌+◌, ◌<◌, suc, List, [], ◌∷◌, ◌++◌, length, map, drop, get_or, Result, Ok, Err, refl, sym, ◌∙◌, ap, subst, arith}
use Rattle.std.proofs.lemmas.List.{append-nil, append_assoc, length-map}
use Rattle.std.proofs.Math.Seq.{drop-cons}
use Rattle.std.specs.HashSet.{HashSet}
use Rattle.srmt_base.specs.declared.part.Part.{Part}
use Rattle.mid_code.specs.declared.program.MidFunction.{MidFunction}
use Rattle.c_types.specs.declared.type_ref.TypeRef.{TypeRef}
use Rattle.c_types.specs.declared.type_ref.Row.{Row}
use Rattle.c_types.specs.Types.{CType}
use Rattle.c_types.specs.Table.{type_at}
use Rattle.c_typed.specs.declared.program.Function.{Function as CodeFunction}
use Rattle.c_typed.specs.declared.program.TypedFile.{TypedFile as CodeFile}
use Rattle.c_typed.specs.declared.program.TypedProgram.{TypedProgram}
use Rattle.c_typed.specs.Statements.{Function, Program, TypedFile}
use Rattle.c_typed.specs.StatementViews.{function_view, file_view, program_view}
use Rattle.lower.specs.declared.refusal.LowerRefusal.{LowerRefusal}
use Rattle.lower.specs.declared.refusal.LowerRefusal.TheVariants.{Memory}
use Rattle.lower.specs.declared.functions.Lowered.{Lowered as CodeLowered}
use Rattle.lower.specs.Programs.{Lowered, Each, IsFunction, and_others, lowered_function, lowered_functions, types_of_program, all_types}
use Rattle.lower.specs.Functions.{AreTypes, GivesFunction, GivesFunctions}

-- ---- lists of which each is what it should be

pub each-append : {A B : Type 0} (R : A → B → Type 0) (xs xs' : List A) (ys ys' : List B) → Each R xs ys → Each R xs' ys' → Each R (xs ++ xs') (ys ++ ys')
each-append R [] xs' [] ys' h h' = h'
each-append R [] xs' (y ∷ ys) ys' h h' = absurd h
each-append R (x ∷ xs) xs' [] ys' h h' = absurd h
each-append R (x ∷ xs) xs' (y ∷ ys) ys' h h' = (h.0, each-append R xs xs' ys ys' h.1 h')

-- ---- functions

-- what is said of the rest is said of the whole
pub record Continues {K : Type 0} (keys : K → List TypeRef) (rows : List Row) (start now : List MidFunction)
    (whole rest : Result (List Lowered × List CType) LowerRefusal) : Type 0 where
  pub then : (new : List MidFunction) (result : Result K LowerRefusal) → GivesFunctions keys rows now new rest result
      → GivesFunctions keys rows start new whole result

-- so many functions are lowered, and these are the types of functions now
pub record Reaches {K : Type 0} (keys : K → List TypeRef) (rows : List Row) (program : Program) (part : Part) (start now : List MidFunction)
    (refs : List TypeRef) (rest : List Function) (whole : Result (List Lowered × List CType) LowerRefusal) : Type 0 where
  pub types : List CType
  pub are : AreTypes rows refs types
  pub continues : Continues keys rows start now whole (lowered_functions program part rest types)

-- the same of a set of types
abbrev pub ReachesWith : {S : Type 0} (known : HashSet TypeRef S) (rows : List Row) (program : Program) (part : Part) (start now : List MidFunction)
    (rest : List Function) (whole : Result (List Lowered × List CType) LowerRefusal) → Type 0
ReachesWith {S} known rows program part start now rest whole =
    Reaches {K = HashSet TypeRef S} (λ k. k.keys) rows program part start now known.keys rest whole

module _ {K : Type 0} (keys : K → List TypeRef) (rows : List Row) where
  -- none is lowered yet
  pub reaches-start : (program : Program) (part : Part) (start : List MidFunction) (refs : List TypeRef) (types : List CType) (rest all : List Function)
      → AreTypes rows refs types → rest ≡ all → Reaches keys rows program part start start refs rest (lowered_functions program part all types)
  reaches-start program part start refs types rest all are is = record {
    types = types;
    are = are;
    continues =
        record {
          then = λ new result h. subst (λ (l : List Function). GivesFunctions keys rows start new
              (lowered_functions program part l types) result) is h;
        };
  }

  pub memory-gives : (old new : List MidFunction) (whole : Result (List Lowered × List CType) LowerRefusal) (told : LowerRefusal) → told ≡ Memory
      → GivesFunctions keys rows old new whole (Err told)
  memory-gives old new (Ok found) told is = is
  memory-gives old new (Err refusal) told is = inr is

  one-more : (old new : List MidFunction) (x : MidFunction) (f : Lowered) (others : List CType → Result (List Lowered × List CType) LowerRefusal)
      (types : List CType) → IsFunction f x → (result : Result K LowerRefusal)
      → GivesFunctions keys rows (old ++ x ∷ []) new (others types) result → GivesFunctions keys rows old new (and_others (Ok (f, types)) others) result
  one-more old new x f others types is result h = by (others types) result h
    where
      by : (rest : Result (List Lowered × List CType) LowerRefusal) (result : Result K LowerRefusal)
          → GivesFunctions keys rows (old ++ x ∷ []) new rest result → GivesFunctions keys rows old new (and_others (Ok (f, types)) (λ _. rest)) result
      by (Ok found) (Ok known) h =
          (record { more = x ∷ h.0.more; is = h.0.is ∙ append_assoc old (x ∷ []) h.0.more; each = (is, h.0.each) }, h.1)
      by (Ok found) (Err told) h = h
      by (Err refusal) (Ok known) h = h
      by (Err refusal) (Err told) h = h

  -- a function was lowered
  pub reaches-next : (program : Program) (part : Part) (start now : List MidFunction) (f : Function) (rest : List Function)
      (whole : Result (List Lowered × List CType) LowerRefusal) (types : List CType) (x : CodeLowered)
      → Continues keys rows start now whole (lowered_functions program part (f ∷ rest) types)
      → GivesFunction rows (lowered_function program part f types) (Ok x)
      → Reaches keys rows program part start (now ++ x.function ∷ []) x.types.keys rest whole
  reaches-next program part start now f rest whole types x continues given = by (lowered_function program part f types) given continues
    where
      by : (r : Result (Lowered × List CType) LowerRefusal) → GivesFunction rows r (Ok x)
          → Continues keys rows start now whole (and_others r (lowered_functions program part rest))
          → Reaches keys rows program part start (now ++ x.function ∷ []) x.types.keys rest whole
      by (Ok found) h continues = record {
        types = found.1;
        are = h.1;
        continues = record {
          then = λ new result said.
              continues.then new result
              (one-more now new x.function found.0 (lowered_functions program part rest) found.1 h.0 result said);
        };
      }
      by (Err refusal) h continues = absurd h

  -- a function was refused
  pub refused-gives : (program : Program) (part : Part) (start now new : List MidFunction) (f : Function) (rest : List Function)
      (whole : Result (List Lowered × List CType) LowerRefusal) (types : List CType) (told : LowerRefusal)
      → Continues keys rows start now whole (lowered_functions program part (f ∷ rest) types)
      → GivesFunction rows (lowered_function program part f types) (Err told)
      → GivesFunctions keys rows start new whole (Err told)
  refused-gives program part start now new f rest whole types told continues given =
      continues.then new (Err told) (by (lowered_function program part f types) given)
    where
      by : (r : Result (Lowered × List CType) LowerRefusal) → GivesFunction rows r (Err told)
          → GivesFunctions keys rows now new (and_others r (lowered_functions program part rest)) (Err told)
      by (Ok found) h = memory-gives now new (and_others (Ok found) (lowered_functions program part rest)) told h
      by (Err refusal) h = h

  -- the same of what the code has left
  pub reaches-pushed : (program : Program) (part : Part) (start now pushed : List MidFunction) (f : Function) (rest left : List Function)
      (whole : Result (List Lowered × List CType) LowerRefusal) (types : List CType) (x : CodeLowered)
      → left ≡ f ∷ rest → pushed ≡ now ++ x.function ∷ [] → Continues keys rows start now whole (lowered_functions program part left types)
      → GivesFunction rows (lowered_function program part f types) (Ok x) → Reaches keys rows program part start pushed x.types.keys rest whole
  reaches-pushed program part start now pushed f rest left whole types x is push continues given =
      subst (λ (l : List MidFunction). Reaches keys rows program part start l x.types.keys rest whole) (sym push)
      (reaches-next program part start now f rest whole types x
      (subst (λ (l : List Function). Continues keys rows start now whole (lowered_functions program part l types)) is continues) given)

  pub refused-left : (program : Program) (part : Part) (start now new : List MidFunction) (f : Function) (rest left : List Function)
      (whole : Result (List Lowered × List CType) LowerRefusal) (types : List CType) (told : LowerRefusal) (r : Result K LowerRefusal)
      → r ≡ Err told → left ≡ f ∷ rest → Continues keys rows start now whole (lowered_functions program part left types)
      → GivesFunction rows (lowered_function program part f types) (Err told) → GivesFunctions keys rows start new whole r
  refused-left program part start now new f rest left whole types told r out is continues given =
      subst (GivesFunctions keys rows start new whole) (sym out)
      (refused-gives program part start now new f rest whole types told
      (subst (λ (l : List Function). Continues keys rows start now whole (lowered_functions program part l types)) is continues) given)

  pub memory-left : (old new : List MidFunction) (whole : Result (List Lowered × List CType) LowerRefusal) (r : Result K LowerRefusal)
      → r ≡ Err Memory → GivesFunctions keys rows old new whole r
  memory-left old new whole r is = subst (GivesFunctions keys rows old new whole) (sym is) (memory-gives old new whole Memory refl)

  -- none is left
  pub all-reached : (program : Program) (part : Part) (start now : List MidFunction) (rest : List Function)
      (whole : Result (List Lowered × List CType) LowerRefusal) (types : List CType) (known : K)
      → Continues keys rows start now whole (lowered_functions program part rest types) → rest ≡ [] → AreTypes rows (keys known) types
      → GivesFunctions keys rows start now whole (Ok known)
  all-reached program part start now rest whole types known continues none are =
      continues.then now (Ok known)
      (subst (λ (l : List Function). GivesFunctions keys rows now now (lowered_functions program part l types) (Ok known)) (sym none)
      (record { more = []; is = sym (append-nil now); each = tt }, are))

-- ---- the functions of a file

pub functions_of : (types : TypeRef → CType) (f : CodeFile) (g : TypedFile) → file_view types f ≡ g → map (function_view types) f.functions ≡ g.functions
unfolding file_view
functions_of types f g is = ap (λ (x : TypedFile). x.functions) is

pub functions_counted : (types : TypeRef → CType) (f : CodeFile) (g : TypedFile) → file_view types f ≡ g → length f.functions ≡ length g.functions
unfolding file_view
functions_counted types f g is = sym (length-map f.functions (function_view types)) ∙ ap (λ (x : TypedFile). length x.functions) is

pub next-function : (types : TypeRef → CType) (fs : List CodeFunction) (i : ℕ) (f : CodeFunction) → i < length fs → f ≡ get_or fs i f
    → map (function_view types) (drop i fs) ≡ function_view types f ∷ map (function_view types) (drop (i + 1) fs)
next-function types fs i f within is =
    let next : suc i ≡ i + 1 = omega arith in
    ap (map (function_view types)) (drop-cons fs i f within ∙ (λ k. sym is k ∷ drop (next k) fs))

-- ---- the types of the functions of a program

pub types-of-both : (p : TypedProgram) → all_types (all_types [] (map (function_view (type_at p.types)) p.main_file.functions))
    (map (function_view (type_at p.types)) p.binary_file.functions) ≡ types_of_program (program_view p)
unfolding program_view file_view
types-of-both p = refl

pub no-types : (rows : List Row) → AreTypes rows [] []
no-types rows = record { stand = λ k d below. absurd (omega (arith, below)); are = refl }
