-- How what one, two or three steps of a function give makes what the whole gives.
use Rattle.std.proofs.Common.{◌≡◌, List, Result, Ok, Err, sym, ◌∙◌, ap, subst}
use Rattle.c_types.specs.declared.type_ref.TypeRef.{TypeRef}
use Rattle.c_types.specs.declared.type_ref.Row.{Row}
use Rattle.c_types.specs.Types.{CType}
use Rattle.c_types.specs.Table.{Extends, Stands}
use Rattle.c_types.proofs.Grown.{Extends-trans}
use Rattle.typing_rules.specs.declared.refusal.TypeRefusal.{TypeRefusal}
use Rattle.typing_rules.specs.declared.refusal.TypeRefusal.TheVariants.{Memory}
use Rattle.typing_rules.specs.Checking.{Checking, ◌>>=◌, pure}
use Rattle.c_known.specs.declared.known.Known.{Known}
use Rattle.c_known.specs.Gives.{Standing, Gives}
use Rattle.c_statements.proofs.PartLaws.{right}
use Rattle.c_known.proofs.Binding.{bind, told, memory, pure-gives}

-- a refusal that is passed on
pub exits : {X A Y B : Type 0} (M : Standing X A) (N : Standing Y B) (old mid new : Known) (e : TypeRefusal) (r : Result Y TypeRefusal) (m : Checking A) (f : A → Checking B)
    → r ≡ Err e → Gives {X = X} {A = A} M old mid (Err e) m → Gives {X = Y} {A = B} N old new r (m >>= f)
exits M N old mid new e r m f is g = subst (λ q. Gives N old new q (m >>= f)) (sym is) (told M N old mid new e m f g)

-- want of memory
pub wants : {Y B : Type 0} (N : Standing Y B) (old new : Known) (e : TypeRefusal) (r : Result Y TypeRefusal) (m : Checking B)
    → r ≡ Err e → e ≡ Memory → Gives {X = Y} {A = B} N old new r m
wants N old new e r m is why = subst (λ q. Gives N old new q m) (sym (is ∙ ap Err why)) (memory N old new m)

-- one step, and what is made of its result
pub one : {X A Y B : Type 0} (M : Standing X A) (N : Standing Y B) (old new : Known) (x : X) (y : Y) (m : Checking A) (g : A → B)
    → Gives M old new (Ok x) m → ((a : A) → M new.types x a → N new.types y (g a)) → Gives N old new (Ok y) (m >>= (λ a. pure (g a)))
one M N old new x y m g first makes =
    bind M N old new new x (Ok y) m (λ a. pure (g a)) first (λ a grown means. pure-gives N new y (g a) (makes a means))

-- two steps, and what is made of their results
pub two : {W C X A Y B : Type 0} (L : Standing W C) (M : Standing X A) (N : Standing Y B) (old mid new : Known) (w : W) (x : X) (y : Y)
    (l : Checking C) (m : Checking A) (g : C → A → B)
    → Gives L old mid (Ok w) l → (Extends old.types mid.types → Gives M mid new (Ok x) m)
    → ((c : C) (a : A) → Extends mid.types new.types → L mid.types w c → M new.types x a → N new.types y (g c a))
    → Gives N old new (Ok y) (l >>= (λ c. m >>= (λ a. pure (g c a))))
two L M N old mid new w x y l m g first second makes =
    bind L N old mid new w (Ok y) l (λ c. m >>= (λ a. pure (g c a))) first
    (λ c more stood. bind M N mid new new x (Ok y) m (λ a. pure (g c a)) (second more)
    (λ a grown means. pure-gives N new y (g c a) (makes c a grown stood means)))

-- what is given stands for the same in another way
pub as-is : {X Y A : Type 0} (M : Standing X A) (N : Standing Y A) (old new : Known) (x : X) (y : Y) (m : Checking A)
    → Gives M old new (Ok x) m → ((a : A) → M new.types x a → N new.types y a) → Gives N old new (Ok y) m
as-is M N old new x y m g makes = subst (λ n. Gives N old new (Ok y) n) (right m) (one M N old new x y m (λ a. a) g makes)

-- a refusal is one whatever was to be given
pub as-refusal : {X Y A : Type 0} (M : Standing X A) (N : Standing Y A) (old new : Known) (e : TypeRefusal) (r : Result Y TypeRefusal) (m : Checking A)
    → r ≡ Err e → Gives {X = X} {A = A} M old new (Err e) m → Gives {X = Y} {A = A} N old new r m
as-refusal M N old new e r m is g = subst (λ n. Gives N old new r n) (right m) (exits M N old new new e r m pure is g)
