-- Expressions and declarators at a place of a program, within a function or outside of all.
use Rattle.std.proofs.Common.{Bool as Test, false, List, [], map, refl, sym, subst}
use Rattle.c_types.specs.Types.{CType, Qualified}
use Rattle.typing_rules.specs.Source.{Expr, Specifiers, Declarator, line_of}
use Rattle.typing_rules.specs.Known as known
use Rattle.typing_rules.specs.Known.{Known, Meaning}
use Rattle.typing_rules.specs.DeclaratorRules.{parameter_type}
use Rattle.typing_rules.specs.Declarators.{AreSpecified, IsDerived}
use Rattle.typing_rules.specs.Holding.{Typing, Sequence, Is, Such, Makes}
use Rattle.typing_rules.specs.Typing.{AreDerivations}
use Rattle.typing_rules.specs.TypingDeclarations.{IsValueOf}
use Rattle.typing_rules.specs.Laws.{Each}
use Rattle.typing_rules.proofs.Sound.{Sound, Any, sound_is, sound_makes}
use Rattle.typing_rules.proofs.LanguageKnown.{Setting, At, IsGood}
use Rattle.typing_rules.proofs.DerivedTypes.{IsDerivation}
use Rattle.typing_rules.proofs.ParametersSound.{scope_more}
use Rattle.typing_laws.proofs.BlocksSound.{Block, sound_value_of, sound_derives, sound_opened, sound_closed}
use Rattle.typing_laws.proofs.UnsizedSound.{IsBase, IsDeclaredBy, sound_base, sound_type}
use Rattle.running_laws.specs.HasNumbers.{ExprHasNumbers, DeclaratorHasNumbers}
use Rattle.running_laws.proofs.Ready.{Frame, Ready, Both, ready_opened, ready_closed}
use Rattle.running_laws.proofs.PartsRun.{WrittenIs, written_is}
use Rattle.running_laws.proofs.TermsRun.{is_term, are_derivations}

-- what is known has types of the language, there is room for what is counted, and the types of the locals are such
pub record Inside (f : Frame) (M : List CType → Type 0) (k : Known) : Type 0 where
  pub block : Block k
  pub ready : Ready f k
  pub locals : M (map parameter_type k.locals)

inside : {A : Type 0} {Q P : A → Type 0} {R : Typing A} {f : Frame} {M : List CType → Type 0}
    → ((s : Setting) → IsGood s → Sound (Both (At s) (Ready f)) Q R) → Sound Block P R → Sound (Inside f M) Q R
inside {f = f} {M = M} within blocks = record {
  sound = λ x k l h i.
      let s : Setting = record { scopes = k.scopes; types = map parameter_type k.locals; file_scope = k.file_scope } in
      let good : IsGood s =
      record { scopes = i.block.scopes; file_scope = scope_more [] (map parameter_type k.locals) k.file_scope i.block.file_scope } in
      let at : At s k = record { scopes = refl; types = refl; file_scope = refl } in
      let p = (within s good).sound x k l h (record { first = at; second = i.ready }) in
      let b = blocks.sound x k l h i.block in
      (p.0, record { block = b.1; ready = p.1.second; locals = subst M (sym p.1.first.types) i.locals });
}

pub in_value_of : {f : Frame} {M : List CType → Type 0} (e : Expr) → ExprHasNumbers e → Sound (Inside f M) WrittenIs (IsValueOf e)
in_value_of {f = f} e n = inside (λ s g. written_is (line_of e) (is_term f s g e n)) (sound_value_of e)

pub in_derives : {f : Frame} {M : List CType → Type 0} (d : Declarator) → DeclaratorHasNumbers d
    → Sound (Inside f M) (Each IsDerivation) (AreDerivations d)
in_derives {f = f} d n = inside (λ s g. are_derivations f s g d n) (sound_derives d)

pub in_base : {f : Frame} {M : List CType → Type 0} (may_store : Test) (s : Specifiers)
    → Sound (Inside f M) (λ base. IsBase base.type) (AreSpecified may_store s)
in_base {f = f} {M = M} may_store s = record {
  sound = λ x k l h i. let p = (sound_base may_store s).sound x k l h i.block in (p.0, subst (Inside f M) (sym h.1) i);
}

-- the type of a declarator, and what follows behind it
pub record TypeSo {A : Type 0} (f : Frame) (M : List CType → Type 0) (d : Declarator) (T : Qualified → Typing A) (x : A) (l : Known) : Type 0 where
  pub type : Qualified
  pub between : Known
  pub declared : IsDeclaredBy d type
  pub inside : Inside f M between
  pub second : T type x between l

pub type_so : {A : Type 0} {f : Frame} {M : List CType → Type 0} {T : Qualified → Typing A} (base : Qualified) (d : Declarator) → IsBase base
    → DeclaratorHasNumbers d → (x : A) (k l : Known)
    → Sequence (AreDerivations d) (λ ds. Sequence (Such (IsDerived false base ds)) T) x k l → Inside f M k → TypeSo f M d T x l
type_so {f = f} {M = M} base d b n x k l h i =
    let p = (in_derives d n).sound h.of k h.between h.first i in
    let such = h.second in
    let typed : Sequence (AreDerivations d) (λ ds. Sequence (Such (IsDerived false base ds)) Is) such.of k such.between =
    record {
      of = h.of;
      between = h.between;
      first = h.first;
      second = record
          { of = such.of; between = such.between; first = such.first; second = (refl, refl) };
    } in
    let declared : Sound Block (IsDeclaredBy d) (Sequence (AreDerivations d) (λ ds. Sequence (Such (IsDerived false base ds)) Is)) =
    sound_type base d b (λ type q. sound_is q) in
    let q = declared.sound such.of k such.between typed i.block in
    record {
      type = such.of;
      between = such.between;
      declared = q.0;
      inside = subst (Inside f M) (sym such.first.1) p.1;
      second = such.second;
    }

pub in_type : {A : Type 0} {Q : A → Type 0} {f : Frame} {M : List CType → Type 0} {T : Qualified → Typing A} (base : Qualified) (d : Declarator) → IsBase base
    → DeclaratorHasNumbers d → ((type : Qualified) → IsDeclaredBy d type → Sound (Inside f M) Q (T type))
    → Sound (Inside f M) Q (Sequence (AreDerivations d) (λ ds. Sequence (Such (IsDerived false base ds)) T))
in_type base d b n rest = record {
  sound = λ x k l h i. let s = type_so base d b n x k l h i in (rest s.type s.declared).sound x s.between l s.second s.inside;
}

-- ---- scopes

pub in_opened : {f : Frame} {M : List CType → Type 0} → Sound (Inside f M) Any (Makes known.opened)
in_opened {f = f} = sound_makes (λ k i. record {
  block = (sound_opened.sound tt k (known.opened k) refl i.block).1;
  ready = ready_opened f k i.ready;
  locals = i.locals;
})

pub in_closed : {f : Frame} {M : List CType → Type 0} → Sound (Inside f M) Any (Makes known.closed)
in_closed {f = f} = sound_makes (λ k i. record {
  block = (sound_closed.sound tt k (known.closed k) refl i.block).1;
  ready = ready_closed f k i.ready;
  locals = i.locals;
})
