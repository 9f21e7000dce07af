-- How the reading of several files in turn comes out.
use Rattle.std.proofs.Common.{◌≡◌, ◌⊎◌, inl, inr, ℕ, ◌≤◌, ◌<◌, List, [], ◌∷◌, ◌++◌, length, map, Option, Some, None, Result, Ok, Err, true, false, refl, sym, ap, subst, ◌∙◌, append_assoc, arith}
use Rattle.std.specs.Prelude.{IfSome, IfOk, IsErrOf, option_map, IsSomeAnd}
use Rattle.std.proofs.lemmas.List.{map-append}
use Rattle.std.proofs.lemmas.Option.{IfSome_then}
use Rattle.srmt_outside.specs.declared.file_fault.FileFault.{FileFault}
use Rattle.srmt_outside.specs.declared.file_fault.FileFault.TheVariants.{Failed, TooLong, Memory}
use Rattle.srmt_outside.specs.Files.{Asks as AsksFile}
use Rattle.srmt_outside.specs.Told.{Appends, AppendsPrefix}
use Rattle.srmt_outside.proofs.Told.{Appends-nothing, Appends-both, AppendsPrefix-first, AppendsPrefix-both}
use Rattle.srmtrun.specs.declared.words.Mode.{Mode}
use Rattle.srmtrun.specs.Words.{Command, takes_form, MayHaveOptions}
use Rattle.srmtrun.proofs.Spelling.{same_command}
use Rattle.srmtrun.specs.Reads.{Wanted, file_named, files_named, files_of, names_of, Contents, IsWithin, PassesLimit, AreWithin, ReadsAll, StopsAt, Reads, IsRead, IsReadIfGiven, IsInput, AreRead, AreTold, IsToldInput}

same_names : (fs gs : List Wanted) → names_of fs ++ names_of gs ≡ names_of (fs ++ gs)
same_names fs gs = sym (map-append (λ (f : Wanted). f.name) fs gs)

module _ (contents : Contents) where
  within_both : (fs gs : List Wanted) → AreWithin contents fs → AreWithin contents gs → AreWithin contents (fs ++ gs)
  within_both [] gs h k = k
  within_both (f ∷ fs) gs h k = (h.0, within_both fs gs h.1 k)

  pub reads_none : (before : Option (List (List ℕ))) → ReadsAll contents before before []
  reads_none before = record { asked = Appends-nothing before; within = tt }

  pub reads_both : (before between after : Option (List (List ℕ))) (fs gs : List Wanted) → ReadsAll contents before between fs → ReadsAll contents between after gs → ReadsAll contents before after (fs ++ gs)
  reads_both before between after fs gs r s = record {
    asked = subst (λ (ns : List (List ℕ)). Appends before after ns) (same_names fs gs) (Appends-both before between after (names_of fs) (names_of gs) r.asked s.asked);
    within = within_both fs gs r.within s.within;
  }

  stops_first : (before after : Option (List (List ℕ))) (fs gs : List Wanted) (P : Wanted → Type 0) → StopsAt contents before after fs P → StopsAt contents before after (fs ++ gs) P
  stops_first before after fs gs P s = record {
    first = s.first;
    file = s.file;
    rest = s.rest ++ gs;
    order = ap (λ (l : List Wanted). l ++ gs) s.order ∙ append_assoc s.first (s.file ∷ s.rest) gs;
    asked = s.asked;
    within = s.within;
    holds = s.holds;
  }

  stops_behind : (before between after : Option (List (List ℕ))) (fs gs : List Wanted) (P : Wanted → Type 0) → ReadsAll contents before between fs → StopsAt contents between after gs P → StopsAt contents before after (fs ++ gs) P
  stops_behind before between after fs gs P r s = record {
    first = fs ++ s.first;
    file = s.file;
    rest = s.rest;
    order = ap (λ (l : List Wanted). fs ++ l) s.order ∙ sym (append_assoc fs s.first (s.file ∷ s.rest));
    asked = subst (λ (ns : List (List ℕ)). Appends before after ns) (same_names fs (s.first ++ s.file ∷ []) ∙ ap names_of (sym (append_assoc fs s.first (s.file ∷ []))))
        (Appends-both before between after (names_of fs) (names_of (s.first ++ s.file ∷ [])) r.asked s.asked);
    within = within_both fs s.first r.within s.within;
    holds = s.holds;
  }

  -- a fault at the first files, or at those behind
  pub faults_first : (A B : Type 0) (fault : FileFault) (before after : Option (List (List ℕ))) (fs gs : List Wanted) → Reads {A = A} contents before after fs (Err fault) → Reads {A = B} contents before after (fs ++ gs) (Err fault)
  faults_first A B Failed before after fs gs r = stops_first before after fs gs (λ file. Unit {0}) r
  faults_first A B TooLong before after fs gs r = stops_first before after fs gs (PassesLimit contents) r
  faults_first A B Memory before after fs gs r = subst (λ (ns : List (List ℕ)). AppendsPrefix before after ns) (same_names fs gs) (AppendsPrefix-first before after (names_of fs) (names_of gs) r)

  pub faults_behind : (A B : Type 0) (fault : FileFault) (before between after : Option (List (List ℕ))) (fs gs : List Wanted) → ReadsAll contents before between fs → Reads {A = A} contents between after gs (Err fault) → Reads {A = B} contents before after (fs ++ gs) (Err fault)
  faults_behind A B Failed before between after fs gs all r = stops_behind before between after fs gs (λ file. Unit {0}) all r
  faults_behind A B TooLong before between after fs gs all r = stops_behind before between after fs gs (PassesLimit contents) all r
  faults_behind A B Memory before between after fs gs all r = subst (λ (ns : List (List ℕ)). AppendsPrefix before after ns) (same_names fs gs) (AppendsPrefix-both before between after (names_of fs) (names_of gs) all.asked r)

  -- the same, where the contents are those of an earlier state
  pub reads_there : (k : Contents) → k ≡ contents → (before after : Option (List (List ℕ))) (fs : List Wanted) → ReadsAll k before after fs → ReadsAll contents before after fs
  reads_there k e before after fs r = subst (λ (c : Contents). ReadsAll c before after fs) e r

  pub faults_there : (A : Type 0) (fault : FileFault) (k : Contents) → k ≡ contents → (before after : Option (List (List ℕ))) (fs : List Wanted) → Reads {A = A} k before after fs (Err fault) → Reads {A = A} contents before after fs (Err fault)
  faults_there A fault k e before after fs r = subst (λ (c : Contents). Reads {A = A} c before after fs (Err fault)) e r

  -- one file
  pub reads_one : {A : Type 0} (items : A → List ℕ) (r : Result A FileFault) (before after : Option (List (List ℕ))) (file : Wanted) → IfOk r (λ a. IfSome (contents file.name) (λ told. told ≡ items a)) → IfOk r (λ a. length (items a) ≤ file.limit)
      → (IsErrOf r TooLong → PassesLimit contents file) → AsksFile r before after file.name → Reads contents before after (file ∷ []) r
  reads_one items (Ok a) before after file told within long asked =
      record { asked = asked; within = (IfSome_then (contents file.name) told (λ t e. subst (λ (b : List ℕ). length b ≤ file.limit) (sym e) within), tt) }
  reads_one items (Err Failed) before after file told within long asked =
      record { first = []; file = file; rest = []; order = refl; asked = asked; within = tt; holds = tt }
  reads_one items (Err TooLong) before after file told within long asked =
      record { first = []; file = file; rest = []; order = refl; asked = asked; within = tt; holds = long refl }
  reads_one items (Err Memory) before after file told within long asked = (0, subst (λ (o : Option (List (List ℕ))). Appends before o []) (sym asked) (Appends-nothing before))

  pub is_read_one : {A : Type 0} (items : A → List ℕ) (r : Result A FileFault) (file : Wanted) → IfOk r (λ a. IfSome (contents file.name) (λ told. told ≡ items a)) → IfOk r (λ a. length (items a) ≤ file.limit)
      → IfOk r (λ a. IsRead contents file (items a))
  is_read_one items (Ok a) file told within = record { told = told; within = within }
  is_read_one items (Err fault) file told within = tt

-- ---- files that are told

one_content : (o : Option (List ℕ)) (a b : List ℕ) → o ≡ Some a → IfSome o (λ t. t ≡ b) → b ≡ a
one_content (Some t) a b e h = let same : t ≡ a = cc in sym h ∙ same
one_content None a b e h = absurd cc

pub one_input : (contents : Contents) (name : Option (List ℕ)) (bytes other : List ℕ) → IsToldInput contents name bytes → IsInput contents name other → other ≡ bytes
one_input contents None bytes other e is = is ∙ sym e
one_input contents (Some n) bytes other e is = one_content (contents n) bytes other e is.told

some_same : {X : Type 0} (a b : X) → Some a ≡ Some b → a ≡ b
some_same a b e = cc

-- the bytes that were read are those that are told
module _ (contents : Contents) (command : Command) (main : List ℕ) (binary : Option (List ℕ)) (told : AreTold contents command main binary) where
  pub one_main : (other : List ℕ) → IsRead contents (file_named 1048576 command.program) other → other ≡ main
  one_main other r = one_content (contents command.program) main other told.of_main r.told

  one_given : (name given bytes : Option (List ℕ)) → option_map contents name ≡ option_map Some bytes → IsReadIfGiven contents 1048576 name given → given ≡ bytes
  one_given None None None e r = refl
  one_given None None (Some b) e r = absurd cc
  one_given None (Some g) bytes e r = absurd r
  one_given (Some n) None bytes e r = absurd r
  one_given (Some n) (Some g) None e r = absurd cc
  one_given (Some n) (Some g) (Some b) e r = ap Some (one_content (contents n) b g (some_same (contents n) (Some b) e) r.told)

  pub one_binary : (other : Option (List ℕ)) → IsReadIfGiven contents 1048576 command.binary other → other ≡ binary
  one_binary other r = one_given command.binary other binary told.of_binary r

  -- and none of the files passes its limit
  abbrev Told : Wanted → Type 0
  Told file = IsSomeAnd (contents file.name) (λ bytes. length bytes ≤ file.limit)

  abbrev AllTold : List Wanted → Type 0
  AllTold [] = Unit {0}
  AllTold (file ∷ rest) = Told file × AllTold rest

  told_both : (fs gs : List Wanted) → AllTold fs → AllTold gs → AllTold (fs ++ gs)
  told_both [] gs h k = k
  told_both (f ∷ fs) gs h k = (h.0, told_both fs gs h.1 k)

  told_there : (fs gs : List Wanted) (f : Wanted) → AllTold (fs ++ f ∷ gs) → Told f
  told_there [] gs f h = h.0
  told_there (g ∷ fs) gs f h = told_there fs gs f h.1

  is_told : (o : Option (List ℕ)) (b : List ℕ) (limit : ℕ) → o ≡ Some b → length b ≤ limit → IsSomeAnd o (λ bytes. length bytes ≤ limit)
  is_told (Some t) b limit e h = let same : t ≡ b = cc in subst (λ (x : List ℕ). length x ≤ limit) (sym same) h
  is_told None b limit e h = absurd cc

  told_binary : (name bytes : Option (List ℕ)) → option_map contents name ≡ option_map Some bytes → IfSome bytes (λ b. length b ≤ 1048576) → AllTold (files_named 1048576 name)
  told_binary None bytes e h = tt
  told_binary (Some n) None e h = absurd cc
  told_binary (Some n) (Some b) e h = (is_told (contents n) b 1048576 (some_same (contents n) (Some b) e) h, tt)

  told_input : (name : Option (List ℕ)) → IfSome name (λ n. IsSomeAnd (contents n) (λ bytes. length bytes ≤ 16777216)) → AllTold (files_named 16777216 name)
  told_input None h = tt
  told_input (Some n) h = (h, tt)

  all_told : AllTold (files_of command)
  all_told = (
    is_told (contents command.program) main 1048576 told.of_main told.main_within,
    told_both (files_named 1048576 command.binary) (files_named 16777216 command.input) (told_binary command.binary binary told.of_binary told.binary_within) (told_input command.input told.of_input),
  )

  passes_none : (o : Option (List ℕ)) (limit : ℕ) → IsSomeAnd o (λ bytes. length bytes ≤ limit) → IfSome o (λ bytes. limit < length bytes) → ⊥
  passes_none None limit h k = h
  passes_none (Some b) limit h k = absurd (omega (arith, h, k))

  pub none_too_long : (before after : Option (List (List ℕ))) → StopsAt contents before after (files_of command) (PassesLimit contents) → ⊥
  none_too_long before after s =
      let here = told_there s.first s.rest s.file (subst AllTold s.order all_told) in
      passes_none (contents s.file.name) s.file.limit here s.holds

-- ---- a source that is run

-- a command that takes the first form has no option
pub run_alone : (command : Command) (mode : Mode) → command.mode ≡ mode → takes_form mode ≡ true → MayHaveOptions command
    → Path Command (record { mode = mode; program = command.program; binary = None; input = None; turns = None }) command
run_alone command mode how form (inl every) = let no : true ≡ false = sym form ∙ ap takes_form (sym how) ∙ every in absurd cc
run_alone command mode how form (inr none) =
    same_command mode command.mode command.program command.program None command.binary None command.input None command.turns (sym how) refl (sym none.binary) (sym none.input) (sym none.turns)

pub one_file_within : (contents : Contents) (command : Command) (bytes : List ℕ) → contents command.program ≡ Some bytes → length bytes ≤ 1048576 → takes_form command.mode ≡ true → MayHaveOptions command
    → (before after : Option (List (List ℕ))) → StopsAt contents before after (files_of command) (PassesLimit contents) → ⊥
one_file_within contents command bytes e within form (inl every) before after s = let no : true ≡ false = sym form ∙ every in absurd cc
one_file_within contents command bytes e within form (inr none) before after s =
    none_too_long contents command bytes None (record {
      of_main = e;
      main_within = within;
      of_binary = ap (option_map contents) none.binary;
      binary_within = tt;
      of_input = subst (λ (i : Option (List ℕ)). IfSome i (λ name. IsSomeAnd (contents name) (λ b. length b ≤ 16777216))) (sym none.input) tt;
    }) before after s
