-- A whole function: what stands before anything is lowered, and what is handed out at the end.
use Rattle.std.proofs.Common.{◌≡◌, inl, inr, ℕ, ◌≤◌, nat_lt, Bool, true, false, List, [], ◌∷◌, ◌++◌, length, map, reverse, Some, None, Result, Ok, Err, refl, sym, ◌∙◌, ap, subst, arith}
use Rattle.std.proofs.lemmas.List.{append-nil, append_assoc, length-append, length-map}
use Rattle.std.proofs.lemmas.Bool.{lt-ltb, le-ltb, ltb-true, ltb-false}
use Rattle.mid_code.specs.declared.mid.Mid.{Mid}
use Rattle.mid_code.specs.declared.mid.Mid.TheVariants as mid
use Rattle.mid_code.specs.declared.program.MidLine.{MidLine}
use Rattle.c_types.specs.declared.type_ref.TypeRef.{TypeRef}
use Rattle.c_types.specs.declared.type_ref.Row.{Row}
use Rattle.c_types.specs.Types.{CType}
use Rattle.c_types.specs.Table.{type_at}
use Rattle.c_typed.specs.Statements.{Function}
use Rattle.c_typed.specs.StatementViews.{function_view, program_view}
use Rattle.lower.specs.declared.body.Body.{Body}
use Rattle.lower.specs.declared.functions.Lowered.{Lowered as CodeLowered}
use Rattle.lower.specs.declared.inside.Inside.{Inside as CodeInside}
use Rattle.lower.specs.declared.refusal.LowerRefusal.{LowerRefusal}
use Rattle.lower.specs.declared.refusal.LowerRefusal.TheVariants.{TooManyRegisters, TooLong, Memory}
use Rattle.lower.specs.Emitting.{Line, Allotted, Made, Making}
use Rattle.lower.specs.Instructions.{instruction_view, line_view}
use Rattle.lower.specs.SoFar.{Lines, with_line, if_room, added, grown, most_instructions}
use Rattle.lower.specs.Drafts.{code_of}
use Rattle.lower.specs.Emits.{AllStand, allotted_view, itself, rows_of, types_of, inside_view}
use Rattle.lower.specs.Runs.{around_of, MakesAround, RunsAs, Runs}
use Rattle.lower.specs.Programs.{Lowered, IsInstruction, IsLine, Each, nowhere, typed_code, nothing_allotted, if_short, finished, lowered_function}
use Rattle.lower.specs.Functions.{AreTypes, GivesFunction, Starts}
use Rattle.lower.proofs.Growing.{added-none}

-- ---- code that stands behind nothing

abbrev pub kept : List Line → Bool → Lines
kept ls true = None
kept ls false = Some ls

-- it is kept where it is not too long
added-kept : (xs ls : List Line) → length ls ≤ most_instructions → added xs (Some ls) ≡ kept (ls ++ xs) (nat_lt most_instructions (length (ls ++ xs)))
unfolding with_line
added-kept [] ls few =
    sym (ap (λ (l : List Line). kept l (nat_lt most_instructions (length l))) (append-nil ls)
    ∙ ap (kept ls) (le-ltb most_instructions (length ls) few))
added-kept (x ∷ xs) ls few = next (nat_lt (length ls) most_instructions) refl (added-kept xs (ls ++ x ∷ []))
  where
    next : (b : Bool) → nat_lt (length ls) most_instructions ≡ b
        → (length (ls ++ x ∷ []) ≤ most_instructions
        → added xs (Some (ls ++ x ∷ [])) ≡ kept ((ls ++ x ∷ []) ++ xs) (nat_lt most_instructions (length ((ls ++ x ∷ []) ++ xs))))
        → added xs (if_room x ls b) ≡ kept (ls ++ x ∷ xs) (nat_lt most_instructions (length (ls ++ x ∷ xs)))
    next true is more =
        more (omega (arith, length-append ls (x ∷ []), ltb-true (length ls) most_instructions is))
        ∙ ap (λ (l : List Line). kept l (nat_lt most_instructions (length l))) (append_assoc ls (x ∷ []) xs)
    next false is more =
        added-none xs
        ∙ sym (ap (kept (ls ++ x ∷ xs)) (lt-ltb most_instructions (length (ls ++ x ∷ xs))
        (omega (arith, length-append ls (x ∷ xs), ltb-false (length ls) most_instructions is))))

pub code-kept : (xs : List Line) → added xs (Some []) ≡ kept xs (nat_lt most_instructions (length xs))
code-kept xs = added-kept xs [] (omega arith)

-- ---- instructions as they are handed out

is-instruction : (m : Mid) → IsInstruction (instruction_view m) m
is-instruction (mid.Call target function arguments) = (refl, refl, refl)
is-instruction (mid.CallPtr target callee type arguments) = (refl, refl, refl, refl)
is-instruction other = refl

pub each-line : (ms : List MidLine) → Each IsLine (map line_view ms) ms
each-line [] = tt
each-line (m ∷ ms) = ((refl, is-instruction m.mid), each-line ms)

-- ---- before anything is lowered

module _ (rows : List Row) (locals : ℕ) (refs : List TypeRef) (known : List CType) (body : Body) (starts : Starts locals refs body)
    (are : AreTypes rows refs known) where
  pub allotted-start : allotted_view rows body.out.allotted ≡ nothing_allotted locals known
  allotted-start =
      let types = ap (map (type_at rows)) starts.types ∙ are.are in
      λ i. record { kinds = starts.kinds i; temporaries = starts.temporaries i; homes = starts.homes i; types = types i }

  pub stand-start : AllStand rows body.out.allotted.types.keys
  stand-start = subst (AllStand rows) (sym starts.types) are.stand

  pub around-start : around_of body [] ≡ nowhere
  around-start = λ i. record {
    break_at = 0;
    continue_at = 0;
    in_loop = reverse (starts.objects i);
    in_function = reverse (starts.objects i) ++ reverse (starts.outside i);
  }

-- ---- at the end

pub memory-function : (rows : List Row) (whole : Result (Lowered × List CType) LowerRefusal) (told : LowerRefusal) → told ≡ Memory
    → GivesFunction rows whole (Err told)
memory-function rows (Ok found) told is = is
memory-function rows (Err refusal) told is = inr is

module _ (rows : List Row) (f : Function) (body new : Body) where
  -- the whole was refused
  pub refused-whole : (c : Result (Made ℕ) ℕ) (line : ℕ) → c ≡ Err line → GivesFunction rows (finished f c) (Err (TooManyRegisters line))
  refused-whole c line is = subst (λ (d : Result (Made ℕ) ℕ). GivesFunction rows (finished f d) (Err (TooManyRegisters line))) (sym is) (inl refl)

  module _ (leads-start : around_of body [] ≡ nowhere) (code-start : code_of body.out.code [] ≡ Some []) (ty : ℕ) where
    code-at : (m : Made ℕ) → MakesAround rows (Ok m) ty body new
        → code_of new.out.code [] ≡ kept (m.code nowhere 0) (nat_lt most_instructions (length (m.code nowhere 0)))
    code-at m made =
        made.3 [] ∙ (λ i. grown (leads-start i) m.code (code-start i)) ∙ code-kept (m.code nowhere 0)

    long-by : (m : Made ℕ) (b : Bool) → None ≡ kept (m.code nowhere 0) b
        → GivesFunction rows (if_short f m.given m.after (m.code nowhere 0) b) (Err (TooLong f.line))
    long-by m true is = inl refl
    long-by m false is = absurd (cc is)

    -- it is too long
    pub long-whole : (c : Result (Made ℕ) ℕ) → MakesAround rows c ty body new → code_of new.out.code [] ≡ None
        → GivesFunction rows (finished f c) (Err (TooLong f.line))
    long-whole (Ok m) made long = long-by m (nat_lt most_instructions (length (m.code nowhere 0))) (sym long ∙ code-at m made)
    long-whole (Err line) made long = absurd made

    lines-by : (m : Made ℕ) (x : CodeLowered) (b : Bool) → MakesAround rows (Ok m) ty body new → Some (map line_view x.function.code) ≡ kept
        (m.code nowhere 0) b
        → x.function.ty ≡ ty → x.function.kinds ≡ new.out.allotted.kinds.items → x.function.line ≡ f.line → x.types.keys ≡ new.out.allotted.types.keys
        → GivesFunction rows (if_short f m.given m.after (m.code nowhere 0) b) (Ok x)
    lines-by m x true made lines ty-is kinds line types = absurd (cc lines)
    lines-by m x false made lines ty-is kinds line types =
        let is : map line_view x.function.code ≡ m.code nowhere 0 = cc lines in (
          record {
            type = ty-is ∙ sym made.0;
            kinds = kinds ∙ sym (ap (λ (a : Allotted). a.kinds) made.1);
            line = line;
            code = subst (λ (ls : List Line). Each IsLine ls x.function.code) is (each-line x.function.code);
          },
          record {
            stand = subst (AllStand rows) (sym types) made.4;
            are = ap (map (type_at rows)) types ∙ sym (ap (λ (a : Allotted). a.types) made.1);
          },
        )

    -- it is handed out
    pub lines-whole : (c : Result (Made ℕ) ℕ) (x : CodeLowered) → MakesAround rows c ty body new → code_of new.out.code [] ≡ Some
        (map line_view x.function.code)
        → x.function.ty ≡ ty → x.function.kinds ≡ new.out.allotted.kinds.items → x.function.line ≡ f.line → x.types.keys ≡ new.out.allotted.types.keys
        → GivesFunction rows (finished f c) (Ok x)
    lines-whole (Ok m) x made lines ty-is kinds line types =
        lines-by m x (nat_lt most_instructions (length (m.code nowhere 0))) made (sym lines ∙ code-at m made) ty-is kinds line types
    lines-whole (Err line) x made lines ty-is kinds l types = absurd made

-- ---- the function of the code

module _ (at : CodeInside) where
  abbrev pub function_of : Function
  function_of = function_view (types_of at) at.function.now

  abbrev pub making_of : Making ℕ
  making_of = typed_code (inside_view at) function_of

  -- what the definition starts from is what the code starts from
  whole-is : (known : List CType)
      → lowered_function (inside_view at).program at.part function_of known
      ≡ finished function_of (typed_code (inside_view at) function_of (nothing_allotted (length at.function.now.locals) known))
  unfolding function_view program_view
  whole-is known =
      ap (λ n. finished function_of (typed_code (inside_view at) function_of (nothing_allotted n known)))
      (length-map at.function.now.locals _)

  line-is : function_of.line ≡ at.function.now.line
  unfolding function_view
  line-is = refl

  module _ (refs : List TypeRef) (known : List CType) (body new : Body) (starts : Starts (length at.function.now.locals) refs body)
      (are : AreTypes (rows_of at) refs known) where
    abbrev whole : Result (Lowered × List CType) LowerRefusal
    whole = lowered_function (inside_view at).program at.part function_of known

    from-start : (x : Result CodeLowered LowerRefusal) → GivesFunction (rows_of at)
        (finished function_of (making_of (allotted_view (rows_of at) body.out.allotted))) x
        → GivesFunction (rows_of at) whole x
    from-start x h =
        subst (λ (w : Result (Lowered × List CType) LowerRefusal). GivesFunction (rows_of at) w x)
        (ap (λ (a : Allotted). finished function_of (making_of a)) (allotted-start (rows_of at) (length at.function.now.locals) refs known body starts are)
        ∙ sym (whole-is known)) h

    pub refused-function : (e : LowerRefusal) (told : Result CodeLowered LowerRefusal) → told ≡ Err e → Runs itself (rows_of at) body new (Err e) making_of
        → GivesFunction (rows_of at) whole told
    refused-function e told is runs = subst (GivesFunction (rows_of at) whole) (sym is) (by e runs.is)
      where
        by : (e : LowerRefusal) → RunsAs itself (rows_of at) body new (Err e) making_of → GivesFunction (rows_of at) whole (Err e)
        by (TooManyRegisters line) h =
            from-start (Err (TooManyRegisters line)) (refused-whole (rows_of at) function_of body new
            (making_of (allotted_view (rows_of at) body.out.allotted)) line
            (h (stand-start (rows_of at) (length at.function.now.locals) refs known body starts are)))
        by (TooLong line) h = absurd h
        by Memory h = memory-function (rows_of at) whole Memory refl

    pub long-function : (ty : ℕ) → Runs itself (rows_of at) body new (Ok ty) making_of → code_of new.out.code [] ≡ None
        → GivesFunction (rows_of at) whole (Err (TooLong at.function.now.line))
    long-function ty runs long =
        subst (λ line. GivesFunction (rows_of at) whole (Err (TooLong line))) line-is
        (from-start (Err (TooLong function_of.line)) (long-whole (rows_of at) function_of body new
        (around-start (rows_of at) (length at.function.now.locals) refs known body starts are) (starts.code []) ty
        (making_of (allotted_view (rows_of at) body.out.allotted))
        (runs.is (stand-start (rows_of at) (length at.function.now.locals) refs known body starts are)) long))

    pub given-function : (ty : ℕ) (x : CodeLowered) → Runs itself (rows_of at) body new (Ok ty) making_of
        → code_of new.out.code [] ≡ Some (map line_view x.function.code)
        → x.function.ty ≡ ty → x.function.kinds ≡ new.out.allotted.kinds.items → x.function.line ≡ at.function.now.line
        → x.types.keys ≡ new.out.allotted.types.keys → GivesFunction (rows_of at) whole (Ok x)
    given-function ty x runs lines ty-is kinds line types =
        from-start (Ok x) (lines-whole (rows_of at) function_of body new
        (around-start (rows_of at) (length at.function.now.locals) refs known body starts are) (starts.code []) ty
        (making_of (allotted_view (rows_of at) body.out.allotted)) x
        (runs.is (stand-start (rows_of at) (length at.function.now.locals) refs known body starts are)) lines ty-is kinds (line ∙ sym line-is) types)
