-- What is called, and whose address is taken, whatever it stands for.
use Rattle.std.proofs.Common.{◌≡◌, ℕ, Bool as Test, List, Result, Ok, refl, subst}
use Rattle.std.specs.Prelude.{⊤}
use Rattle.c_types.specs.declared.type_ref.Row.{Row}
use Rattle.c_types.specs.declared.type_ref.TypeRef.{TypeRef}
use Rattle.c_types.specs.Types.{CType, Qualified}
use Rattle.c_types.specs.Table.{Stands}
use Rattle.c_typed.specs.declared.value.Place as p
use Rattle.c_typed.specs.Typed as tree
use Rattle.typing_rules.specs.declared.refusal.TypeRefusal.{TypeRefusal}
use Rattle.typing_rules.specs.Terms as terms
use Rattle.typing_rules.specs.Checking.{◌>>=◌}
use Rattle.typing_rules.specs.OrderedParts.{valued, marked, address_of, call_of, call_through}
use Rattle.c_values.specs.declared.typed.Term.{Term}
use Rattle.c_values.specs.declared.typed.Term.TheVariants.{Object, Designator}
use Rattle.c_values.specs.declared.typed.Designated.TheVariants.{Entity, Predeclared as Outside}
use Rattle.c_values.specs.declared.typed.Predeclared.{Predeclared}
use Rattle.c_values.specs.Stand.{MeansPlace}
use Rattle.c_values.specs.Answers.{MeansTerm, Answers, address_term, predeclared_view}
use Rattle.c_known.specs.declared.known.Known.{Known}
use Rattle.c_known.specs.Gives.{Gives, IsDone}
use Rattle.c_known.proofs.Binding.{answers-give}
use Rattle.c_terms.proofs.Paths.{step, place-later}

pub marked-address : (old mid new : Known) (line : ℕ) (x : p.Place) (r : Result Term TypeRefusal) (t : terms.Term) (done : ⊤)
    → MeansTerm old.types (Object x) t
    → ((l : ℕ) (q : Qualified) (n : tree.PlaceNode) → MeansPlace old.types x (tree.place l q n) → Gives IsDone old mid (Ok done) (marked n))
    → ((u : terms.Term) → MeansTerm mid.types (Object x) u → Gives MeansTerm mid new r (address_term line u))
    → Gives MeansTerm old new r (address_of line t)
marked-address old mid new line x r (terms.object (tree.place l q n)) done means mark after =
    step {f = λ u. address_term line (terms.object (tree.place l q n))} refl (mark l q n means)
    (λ u more mu. after (terms.object (tree.place l q n)) (place-later more means))
marked-address old mid new line x r (terms.result u) done means mark after = absurd means
marked-address old mid new line x r (terms.designator l of type) done means mark after = absurd means

pub object-call : (rows : List Row) (x : p.Place) (t : terms.Term) (line at : ℕ) (ws : List terms.Written) → MeansTerm rows (Object x) t
    → call_of line at t ws ≡ (valued t >>= (λ v. call_through line at v ws))
object-call rows x (terms.object q) line at ws means = refl
object-call rows x (terms.result u) line at ws means = absurd means
object-call rows x (terms.designator l of type) line at ws means = absurd means

pub entity-call : (s : Known) (line at first n : ℕ) (m : Test) (ty : TypeRef) (r : Result Term TypeRefusal) (t : terms.Term) (ws : List terms.Written)
    → MeansTerm s.types (Designator first (Entity n m) ty) t
    → ((l : ℕ) (is_main : Test) (u : CType) → Stands s.types ty u → Answers (MeansTerm s.types) r (call_of line at (terms.designator l (terms.entity n is_main) u) ws))
    → Gives MeansTerm s s r (call_of line at t ws)
entity-call s line at first n m ty r (terms.object q) ws means answers = absurd means
entity-call s line at first n m ty r (terms.result u) ws means answers = absurd means
entity-call s line at first n m ty r (terms.designator l (terms.entity number is_main) type) ws means answers =
    answers-give MeansTerm s r (call_of line at (terms.designator l (terms.entity number is_main) type) ws)
    (subst (λ z. Answers (MeansTerm s.types) r (call_of line at (terms.designator l (terms.entity z is_main) type) ws)) means.1.0 (answers l is_main type means.2))
entity-call s line at first n m ty r (terms.designator l (terms.predeclared q) type) ws means answers = absurd means.1
entity-call s line at first n m ty r (terms.designator l (terms.through v) type) ws means answers = absurd means.1

pub predeclared-call : (s : Known) (line at first : ℕ) (of : Predeclared) (ty : TypeRef) (r : Result Term TypeRefusal) (t : terms.Term) (ws : List terms.Written)
    → MeansTerm s.types (Designator first (Outside of) ty) t
    → ((l : ℕ) (u : CType) → Stands s.types ty u → Answers (MeansTerm s.types) r (call_of line at (terms.designator l (terms.predeclared (predeclared_view of)) u) ws))
    → Gives MeansTerm s s r (call_of line at t ws)
predeclared-call s line at first of ty r (terms.object q) ws means answers = absurd means
predeclared-call s line at first of ty r (terms.result u) ws means answers = absurd means
predeclared-call s line at first of ty r (terms.designator l (terms.entity number is_main) type) ws means answers = absurd means.1
predeclared-call s line at first of ty r (terms.designator l (terms.predeclared q) type) ws means answers =
    answers-give MeansTerm s r (call_of line at (terms.designator l (terms.predeclared q) type) ws)
    (subst (λ z. Answers (MeansTerm s.types) r (call_of line at (terms.designator l (terms.predeclared z) type) ws)) means.1 (answers l type means.2))
predeclared-call s line at first of ty r (terms.designator l (terms.through v) type) ws means answers = absurd means.1
