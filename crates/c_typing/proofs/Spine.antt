-- How the parts of a program make the program that is answered.
use Rattle.std.proofs.Common.{◌≡◌, ℕ, List, [], map, length, Result, Ok, Err, Option, None, option_map, Bor, refl, sym, ◌∙◌, ap, subst, inl, inr, ◌⊎◌}
use Rattle.std.specs.Result.{IsErrAnd}
use Rattle.std.specs.Option.{option_copied}
use Rattle.std.proofs.lemmas.Result.{err_from_is_err_and}
use Rattle.c_types.specs.declared.type_ref.Row.{Row}
use Rattle.c_types.specs.declared.type_ref.QualifiedRef.{QualifiedRef}
use Rattle.c_types.specs.Types.{Qualified}
use Rattle.c_types.specs.Table.{type_at, Extends, StandsFor}
use Rattle.c_types.proofs.Grown.{Extends-refl, Extends-trans}
use Rattle.c_typed.specs.declared.program.TypedFile as code_file
use Rattle.c_typed.specs.declared.program.TypedProgram.{TypedProgram}
use Rattle.c_typed.specs.declared.program.Function as code_function
use Rattle.c_typed.specs.declared.program.Static as code_static
use Rattle.c_typed.specs.declared.program.TextObject.{TextObject}
use Rattle.c_typed.specs.declared.program.Numbered.{Numbered}
use Rattle.c_tree.specs.declared.unit.Unit.{Unit as TreeUnit}
use Rattle.c_tree.specs.declared.unit.External.{External as TreeExternal}
use Rattle.c_typed.specs.Statements as t
use Rattle.c_typed.specs.StatementViews.{function_view, static_view, file_view, program_view}
use Rattle.typing_rules.specs.declared.refusal.TypeRefusal.{TypeRefusal}
use Rattle.typing_rules.specs.SourceViews.{external_view, unit_view, binary_line}
use Rattle.typing_rules.specs.UnitRules.{statics_of, typed_file, no_file}
use Rattle.typing_rules.specs.Checking.{Checked as Found, Checking, ◌>>=◌, asks, pure}
use Rattle.typing_rules.specs.OrderedUnits.{externals_of, file_of, binary_of, program_alone}
use Rattle.c_known.specs.declared.known.Known.{Known}
use Rattle.c_known.specs.Gives.{Standing, GivesAt, Gives, IsSame}
use Rattle.c_known.proofs.Binding.{bind, told, pure-gives, later-at}
use Rattle.c_known.proofs.Changes.{grown-known}
use Rattle.c_typing.specs.declared.program.Checked.{Checked}
use Rattle.c_program.specs.Whole.{AreStatics, IsFile}
use Rattle.c_typing.specs.Files.{AreFunctions, IsProgram, Checks}
use Rattle.c_program.specs.Whole.{main_found}
use Rattle.c_typing.specs.Steps.{resolved_program, finished, numbered_program}

-- the refusal of a part is that of the whole
pub told-on : {X A Y B : Type 0} (M : Standing X A) (N : Standing Y B) (s mid new : Known) (e : TypeRefusal) (m : Checking A) (f : A → Checking B) (r : Result Y TypeRefusal)
    → Gives {X = X} {A = A} M s mid (Err e) m → IsErrAnd r (λ y. y ≡ e) → Gives {X = Y} {A = B} N s new r (m >>= f)
told-on {X = X} {A = A} {Y = Y} {B = B} M N s mid new e m f r g h =
    let p = err_from_is_err_and r h in
    subst (λ q. Gives {X = Y} {A = B} N s new q (m >>= f)) (sym p.1)
    (subst (λ y. Gives {X = Y} {A = B} N s new (Err y) (m >>= f)) (sym p.2) (told M N s mid new e m f g))

pub file-later : (old rows : List Row) → Extends old rows → (x : code_file.TypedFile) (f : t.TypedFile) → IsFile old x f → IsFile rows x f
file-later old rows grown x f is = record { always = λ later more. is.always later (Extends-trans grown more) }

pub answered : (old new : Known) (p : Checked) (c : Found t.Program) → GivesAt IsProgram old new (Ok p) c
    → Checks (Ok (record { types = new.types; main_file = p.main_file; binary_file = p.binary_file; entities = p.entities; main = p.main })) (program_alone c)
unfolding program_view
answered old new p (Ok found) g =
    let is = g.means in
    let same = Extends-refl new.types in
    λ i. Ok (record {
      main_file = sym (is.main_file.always new.types same) i;
      binary_file = sym (is.binary_file.always new.types same) i;
      entities = sym is.entities i;
      main = sym is.main i;
    })
answered old new p (Err refusal) g = absurd g

pub refused : (old new : Known) (e : TypeRefusal) (c : Found t.Program) → GivesAt {X = Checked} {A = t.Program} IsProgram old new (Err e) c → Checks (Err e) (program_alone c)
refused old new e (Ok found) g = inr g
refused old new e (Err refusal) (inl same) = inl (ap Err (sym same))
refused old new e (Err refusal) (inr memory) = inr memory

pub stands-later : (old rows : List Row) → Extends old rows → (r : QualifiedRef) (t : Qualified) → StandsFor old r t → StandsFor rows r t
stands-later old rows grown r t stands = record {
  qualifiers = stands.qualifiers;
  type = record { always = λ later more. stands.type.always later (Extends-trans grown more) };
}

-- `main` is found, and the rest of the program
pub finished-by : (s new : Known) (n : ℕ) (r : Result Checked TypeRefusal) (f g : t.TypedFile) → Gives IsSame s s (Ok n) main_found
    → Gives IsProgram s new r (resolved_program f g n) → Gives IsProgram s new r (finished f g)
finished-by s new n r f g found rest =
    bind (IsSame {A = ℕ}) IsProgram s s new n r main_found (resolved_program f g) found
    (λ m grown same. subst (λ z. Gives IsProgram s new r (resolved_program f g z)) same rest)

abbrev pub numbers_of : t.TypedFile → t.TypedFile → Checking (List Numbered)
numbers_of f g = asks (λ k. t.numbers_from f g 0 (length k.entities))

abbrev pub program_with : t.TypedFile → t.TypedFile → ℕ → List Numbered → Checking t.Program
program_with f g n entities = pure (record { main_file = f; binary_file = g; entities = entities; main = n })

pub numbered-by : (s : Known) (x y : code_file.TypedFile) (ns : List Numbered) (n : ℕ) (f g : t.TypedFile) → IsFile s.types x f → IsFile s.types y g
    → Gives IsSame s s (Ok ns) (numbers_of f g)
    → Gives IsProgram s s (Ok (record { main_file = x; binary_file = y; entities = ns; main = n })) (numbered_program f g n)
numbered-by s x y ns n f g first second numbers = record {
  at = λ k h.
      let found = numbers.at k h in record {
        grown = found.grown;
        means = record { main_file = first; binary_file = second; entities = found.means; main = refl };
        knows = found.knows;
      };
}

-- the functions of a file, and the rest of it
pub file-by : (s mid new : Known) (fns : List code_function.Function) (r : Result code_file.TypedFile TypeRefusal) (shift : ℕ → ℕ) (unit : TreeUnit) (xs : List TreeExternal) → xs ≡ unit.externals
    → Gives AreFunctions s mid (Ok fns) (externals_of (map (external_view shift) xs))
    → ((fs : List t.Function) → AreFunctions mid.types fns fs → Gives IsFile mid new r (asks (typed_file fs)))
    → Gives IsFile s new r (file_of (unit_view shift unit))
unfolding unit_view
file-by s mid new fns r shift unit xs same functions rest =
    bind AreFunctions IsFile s mid new fns r (externals_of (map (external_view shift) unit.externals)) (λ fs. asks (typed_file fs))
    (subst (λ l. Gives AreFunctions s mid (Ok fns) (externals_of (map (external_view shift) l))) same functions)
    (λ fs grown are. rest fs are)

pub file-told : (s mid new : Known) (e : TypeRefusal) (r : Result code_file.TypedFile TypeRefusal) (shift : ℕ → ℕ) (unit : TreeUnit) (xs : List TreeExternal) → xs ≡ unit.externals
    → Gives {X = List code_function.Function} {A = List t.Function} AreFunctions s mid (Err e) (externals_of (map (external_view shift) xs)) → IsErrAnd r (λ y. y ≡ e)
    → Gives IsFile s new r (file_of (unit_view shift unit))
unfolding unit_view
file-told s mid new e r shift unit xs same functions h =
    told-on AreFunctions IsFile s mid new e (externals_of (map (external_view shift) unit.externals)) (λ fs. asks (typed_file fs)) r
    (subst (λ l. Gives {X = List code_function.Function} {A = List t.Function} AreFunctions s mid (Err e) (externals_of (map (external_view shift) l))) same functions) h

-- what a file has at its end
pub ended-by : (s : Known) (fns : List code_function.Function) (statics : List code_static.Static) (texts : List TextObject) (fs : List t.Function)
    → AreFunctions s.types fns fs → Gives AreStatics s s (Ok statics) (asks (λ k. statics_of k.file k.entities k.declared)) → Gives IsSame s s (Ok texts) (asks (λ k. k.texts))
    → Gives IsFile s s (Ok (record { functions = fns; statics = statics; texts = texts })) (asks (typed_file fs))
unfolding file_view
ended-by s fns statics texts fs functions first second = record {
  at = λ k h.
      let a = first.at k h in
      let b = second.at k h in record {
        grown = a.grown;
        means = record { always = λ later more i. record { functions = functions.always later more i; statics = a.means.always later more i; texts = b.means i } };
        knows = a.knows;
      };
}

abbrev pub statics_asked : Checking (List t.Static)
statics_asked = asks (λ k. statics_of k.file k.entities k.declared)

abbrev pub file_with : List t.Function → List t.Static → Checking t.TypedFile
file_with fs ss = asks (λ k. record { functions = fs; statics = ss; texts = k.texts })

abbrev pub texts_asked : Checking (List TextObject)
texts_asked = asks (λ k. k.texts)

abbrev pub file_of_texts : List t.Function → List TextObject → Checking t.TypedFile
file_of_texts fs texts = asks (λ k. record { functions = fs; statics = statics_of k.file k.entities k.declared; texts = texts })

pub no-file : (s : Known) (fns : List code_function.Function) (statics : List code_static.Static) (texts : List TextObject) → fns ≡ [] → statics ≡ [] → texts ≡ []
    → Gives IsFile s s (Ok (record { functions = fns; statics = statics; texts = texts })) (pure no_file)
unfolding file_view
no-file s fns statics texts a b c =
    pure-gives IsFile s (record { functions = fns; statics = statics; texts = texts }) no_file
    (record { always = λ later more i. record { functions = map (function_view (type_at later)) (a i); statics = map (static_view (type_at later)) (b i); texts = c i } })

pub refused-on : (old new : Known) (e : TypeRefusal) (c : Found t.Program) (r : Result TypedProgram TypeRefusal)
    → GivesAt {X = Checked} {A = t.Program} IsProgram old new (Err e) c → IsErrAnd r (λ y. y ≡ e) → Checks r (program_alone c)
refused-on old new e c r g h =
    let p = err_from_is_err_and r h in
    subst (λ q. Checks q (program_alone c)) (sym p.1) (subst (λ y. Checks (Err y) (program_alone c)) (sym p.2) (refused old new e c g))

-- there is no binary file
pub binary-none : (s : Known) (u : Option (Bor TreeUnit)) → u ≡ None
    → (fns : List code_function.Function) (statics : List code_static.Static) (texts : List TextObject) → fns ≡ [] → statics ≡ [] → texts ≡ []
    → Gives IsFile s s (Ok (record { functions = fns; statics = statics; texts = texts })) (binary_of (option_map (unit_view binary_line) (option_copied u)))
binary-none s u none fns statics texts a b c =
    subst (λ o. Gives IsFile s s (Ok (record { functions = fns; statics = statics; texts = texts })) (binary_of (option_map (unit_view binary_line) (option_copied o)))) (sym none)
    (no-file s fns statics texts a b c)

-- the table of types has grown before
pub grown-gives : {X A : Type 0} (M : Standing X A) (s : Known) (rows : List Row) (new : Known) (r : Result X TypeRefusal) (m : Checking A) → Extends s.types rows
    → Gives M (record s { types = rows }) new r m → Gives M s new r m
grown-gives M s rows new r m more g =
    record { at = λ k h. later-at M s (record s { types = rows }) new r (m k) more (g.at k (grown-known s rows k more h)) }
