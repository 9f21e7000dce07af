-- Lists that are checked from their front: nothing, one item, one front after another, and the end.
use Rattle.std.proofs.Common.{◌≡◌, List, [], ◌∷◌, ◌++◌, Result, Ok, Err, refl, sym, ◌∙◌, ap, subst, inr}
use Rattle.std.specs.Prelude.{⊤}
use Rattle.std.proofs.lemmas.List.{append-nil, append_assoc}
use Rattle.c_types.specs.declared.type_ref.Row.{Row}
use Rattle.c_types.specs.Table.{Extends}
use Rattle.c_types.proofs.Grown.{Extends-refl, Extends-trans}
use Rattle.typing_rules.specs.declared.refusal.TypeRefusal.{TypeRefusal}
use Rattle.typing_rules.specs.declared.refusal.TypeRefusal.TheVariants.{Memory}
use Rattle.typing_rules.specs.Known as known
use Rattle.typing_rules.specs.Checking.{Checked, Checking, and_then, ◌>>=◌, pure}
use Rattle.c_known.specs.declared.known.Known.{Known}
use Rattle.c_known.specs.Gives.{Standing, GivesAt, Gives}
use Rattle.c_known.proofs.Binding.{memory-at}
use Rattle.c_terms.specs.Fronts.{Front, Fronted, IsNothing, FrontsAt, Fronts, More}

-- ---- refusals

-- a refusal is one wherever it is told
pub refusal-is : {X A Y : Type 0} (M : Standing X A) (N : Standing Y A) (old mid older newer : Known) (told : TypeRefusal) (c : Checked A)
    → GivesAt {X = X} {A = A} M old mid (Err told) c → GivesAt {X = Y} {A = A} N older newer (Err told) c
refusal-is M N old mid older newer told (Ok found) g = g
refusal-is M N old mid older newer told (Err refusal) g = g

pub refusal-then : {X A Y B : Type 0} (M : Standing X A) (N : Standing Y B) (old mid older newer : Known) (told : TypeRefusal) (c : Checked A) (f : A → Checking B)
    → GivesAt {X = X} {A = A} M old mid (Err told) c → GivesAt {X = Y} {A = B} N older newer (Err told) (and_then c f)
refusal-then M N old mid older newer told (Ok found) f g = by (f found.0 found.1)
  where
    by : (c : Checked _) → GivesAt N older newer (Err told) c
    by (Ok p) = g
    by (Err q) = inr g
refusal-then M N old mid older newer told (Err refusal) f g = g

-- ---- fronts

end-at : {B : Type 0} (c : Checked B) → c ≡ and_then c (λ b. pure b)
end-at (Ok p) = refl
end-at (Err e) = refl

twice-at : {B : Type 0} (c : Checked B) (a b : B → B) → and_then (and_then c (λ x. pure (b x))) (λ x. pure (a x)) ≡ and_then c (λ x. pure (a (b x)))
twice-at (Ok p) a b = refl
twice-at (Err e) a b = refl

-- nothing
pub none-front : {P B : Type 0} (M : Front B) (s : Known) (whole : P → Checking B) (f : P → P)
    → ((rest : P) → f rest ≡ rest) → M s.types (λ b. b) → Fronts M s s (Ok tt) whole f
none-front M s whole f is means = record {
  at = λ k knows. record {
    grown = Extends-refl s.types;
    front = λ b. b;
    means = means;
    now = k;
    knows = knows;
    is = λ rest. ap (λ x. whole x k) (is rest) ∙ end-at (whole rest k);
  };
}

-- one front after another
pub both-fronts : {P B : Type 0} (L M N : Front B) (old mid new : Known) (x : ⊤) (r : Result ⊤ TypeRefusal) (whole : P → Checking B) (f g h : P → P)
    → ((rest : P) → h rest ≡ f (g rest))
    → ((a b : B → B) → Extends mid.types new.types → L mid.types a → M new.types b → N new.types (λ y. a (b y)))
    → Fronts L old mid (Ok x) whole f → Fronts M mid new r whole g → Fronts N old new r whole h
both-fronts {P} {B} L M N old mid new x r whole f g h is join first second =
    record { at = λ k knows. by k r (first.at k knows) (second.at (first.at k knows).now (first.at k knows).knows) }
  where
    by : (k : known.Known) (r : Result ⊤ TypeRefusal) (a : Fronted L old mid whole (λ rest. whole (f rest) k))
        → FrontsAt M mid new r whole (λ rest. whole (g rest) a.now) → FrontsAt N old new r whole (λ rest. whole (h rest) k)
    by k (Ok y) a b = record {
      grown = Extends-trans a.grown b.grown;
      front = λ y. a.front (b.front y);
      means = join a.front b.front b.grown a.means b.means;
      now = b.now;
      knows = b.knows;
      is = λ rest.
          ap (λ z. whole z k) (is rest) ∙ a.is (g rest) ∙ ap (λ c. and_then c (λ z. pure (a.front z))) (b.is rest) ∙ twice-at (whole rest b.now) a.front b.front;
    }
    by k (Err told) a b = λ rest.
        subst (GivesAt {X = ⊤} {A = B} IsNothing old new (Err told)) (sym (ap (λ z. whole z k) (is rest) ∙ a.is (g rest)))
        (refusal-then {X = ⊤} {Y = ⊤} IsNothing IsNothing mid new old new told (whole (g rest) a.now) (λ z. pure (a.front z)) (b rest))

-- a refusal in the first
pub front-refuses : {P B : Type 0} (L N : Front B) (old mid : Known) (told : TypeRefusal) (whole : P → Checking B) (f g h : P → P)
    → ((rest : P) → h rest ≡ f (g rest))
    → Fronts L old mid (Err told) whole f → Fronts N old mid (Err told) whole h
front-refuses {P} {B} L N old mid told whole f g h is first =
    record { at = λ k knows. λ rest. subst (λ z. GivesAt {X = ⊤} {A = B} IsNothing old mid (Err told) (whole z k)) (sym (is rest)) (first.at k knows (g rest)) }

-- want of memory
pub memory-front : {P B : Type 0} (M : Front B) (old new : Known) (whole : P → Checking B) (f : P → P) → Fronts M old new (Err Memory) whole f
memory-front M old new whole f = record { at = λ k knows. λ rest. memory-at IsNothing old new (whole (f rest) k) }

-- an item
pub one-front : {X A P B : Type 0} (N : Standing X A) (M : Front B) (old new : Known) (x : X) (whole : P → Checking B) (f : P → P) (m : Checking A) (put : A → B → B)
    → ((rest : P) → whole (f rest) ≡ (m >>= (λ a. whole rest >>= (λ b. pure (put a b)))))
    → ((a : A) → N new.types x a → M new.types (put a))
    → Gives N old new (Ok x) m → Fronts M old new (Ok tt) whole f
one-front {X} {A} {P} {B} N M old new x whole f m put is means g = record { at = λ k knows. by k (m k) refl (g.at k knows) }
  where
    by : (k : known.Known) (c : Checked A) → m k ≡ c → GivesAt N old new (Ok x) c → Fronted M old new whole (λ rest. whole (f rest) k)
    by k (Ok found) e given = record {
      grown = given.grown;
      front = put found.0;
      means = means found.0 given.means;
      now = found.1;
      knows = given.knows;
      is = λ rest. ap (λ z. z k) (is rest) ∙ ap (λ c. and_then c (λ a. whole rest >>= (λ b. pure (put a b)))) e;
    }
    by k (Err refusal) e given = absurd given

pub item-refuses : {X A P B : Type 0} (N : Standing X A) (M : Front B) (old new : Known) (told : TypeRefusal) (whole : P → Checking B) (f : P → P) (m : Checking A) (next : P → A → Checking B)
    → ((rest : P) → whole (f rest) ≡ (m >>= next rest))
    → Gives {X = X} {A = A} N old new (Err told) m → Fronts M old new (Err told) whole f
item-refuses {X} {A} {P} {B} N M old new told whole f m next is g = record {
  at = λ k knows. λ rest.
      subst (λ z. GivesAt {X = ⊤} {A = B} IsNothing old new (Err told) (z k)) (sym (is rest))
      (refusal-then {X = X} {Y = ⊤} N IsNothing old new old new told (m k) (next rest) (g.at k knows));
}

-- the end of the list
pub front-gives : {X P B : Type 0} (M : Front B) (N : Standing X B) (old new : Known) (x : X) (whole : P → Checking B) (f : P → P) (end : P) (b : B) (w : Checking B)
    → w ≡ whole (f end) → whole end ≡ pure b
    → ((front : B → B) → M new.types front → N new.types x (front b))
    → Fronts M old new (Ok tt) whole f → Gives N old new (Ok x) w
front-gives {X} {P} {B} M N old new x whole f end b w is ends means g = record {
  at = λ k knows.
      let a = g.at k knows in
      subst (GivesAt N old new (Ok x)) (sym (ap (λ z. z k) is ∙ a.is end ∙ ap (λ z. and_then (z a.now) (λ y. pure (a.front y))) ends))
      (record { grown = a.grown; means = means a.front a.means; knows = a.knows });
}

pub front-told : {X P B : Type 0} (M : Front B) (N : Standing X B) (old new : Known) (told : TypeRefusal) (whole : P → Checking B) (f : P → P) (end : P) (w : Checking B)
    → w ≡ whole (f end) → Fronts M old new (Err told) whole f → Gives {X = X} {A = B} N old new (Err told) w
front-told {X} {P} {B} M N old new told whole f end w is g = record {
  at = λ k knows.
      subst (λ z. GivesAt {X = X} {A = B} N old new (Err told) (z k)) (sym is)
      (refusal-is {X = ⊤} {A = B} {Y = X} IsNothing N old new old new told (whole (f end) k) (g.at k knows end));
}

-- ---- lists of items

-- a list stands for another item by item
pub record IsByItem {X A : Type 0} (Are : List Row → List X → List A → Type 0) (One : List Row → X → A → Type 0) : Type 0 where
  pub none : (rows : List Row) → Are rows [] []
  pub one : (rows : List Row) (x : X) (a : A) → One rows x a → Are rows (x ∷ []) (a ∷ [])
  pub join : (rows : List Row) (xs ys : List X) (ds es : List A) → Are rows xs ds → Are rows ys es → Are rows (xs ++ ys) (ds ++ es)
  pub later : (old new : List Row) (xs : List X) (ds : List A) → Extends old new → Are old xs ds → Are new xs ds

module _ {X A : Type 0} (Are : List Row → List X → List A → Type 0) (One : List Row → X → A → Type 0) (by : IsByItem Are One) where
  pub more-none : (before : List X) (rows : List Row) → More Are before before rows (λ ds. ds)
  more-none before rows = record { more = []; is = sym (append-nil before); added = []; means = by.none rows; puts = λ rest. refl }

  pub more-one : (before after : List X) (rows : List Row) (x : X) (a : A) → after ≡ before ++ x ∷ [] → One rows x a → More Are before after rows (λ ds. a ∷ ds)
  more-one before after rows x a is means = record { more = x ∷ []; is = is; added = a ∷ []; means = by.one rows x a means; puts = λ rest. refl }

  pub more-both : (before mid after : List X) (old new : List Row) (a b : List A → List A) → Extends old new
      → More Are before mid old a → More Are mid after new b → More Are before after new (λ ds. a (b ds))
  more-both before mid after old new a b grown m n = record {
    more = m.more ++ n.more;
    is = n.is ∙ ap (λ z. z ++ n.more) m.is ∙ append_assoc before m.more n.more;
    added = m.added ++ n.added;
    means = by.join new m.more n.more m.added n.added (by.later old new m.more m.added grown m.means) n.means;
    puts = λ rest. m.puts (b rest) ∙ ap (λ z. m.added ++ z) (n.puts rest) ∙ sym (append_assoc m.added n.added rest);
  }
