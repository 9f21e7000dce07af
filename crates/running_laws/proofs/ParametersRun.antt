-- Lists of parameters leave room for what is counted, and their names mean no constants.
use Rattle.std.proofs.Common.{◌≡◌, ℕ, List, [], ◌∷◌, ◌++◌, ap, sym, subst, ◌∙◌, drop, take, Option, Some, None, inl, inr}
use Rattle.std.proofs.lemmas.List.{append-nil}
use Rattle.c_types.specs.Types.{Qualified}
use Rattle.typing_rules.specs.Source.{Named, Specifiers, Declarator, Parameters}
use Rattle.typing_rules.specs.Known as known
use Rattle.typing_rules.specs.Known.{Known, Local}
use Rattle.typing_rules.specs.DeclaratorRules.{Derivation, name_of}
use Rattle.typing_rules.specs.Holding.{Typing, ◌>>=◌, ◌>>◌, Is, Asks, Makes}
use Rattle.typing_rules.specs.Declarators.{IsNamedLocal, IsParameter as Parameter, IsParameterList}
use Rattle.typing_rules.specs.Laws.{Each}
use Rattle.typing_rules.specs.LanguageTypes.{IsOfLanguage}
use Rattle.typing_rules.proofs.Sound.{Sound, Any, sound_is, sound_such_as, sound_holds, sound_asks, sound_makes, sound_bind}
use Rattle.typing_rules.proofs.LanguageKnown.{Setting, At, IsGood}
use Rattle.typing_rules.proofs.DerivedTypes.{IsDerivation}
use Rattle.typing_rules.proofs.ParametersSound.{Among, sound_parameter, sound_parameter_list, scope_more, scopes_more}
use Rattle.typing_laws.proofs.FunctionsSound.{IsOwn}
use Rattle.running_laws.proofs.Ready.{Frame, Ready, Both, ready_opened, ready_closed, ready_meaning}

-- ---- among parameters

pub both_among : {A : Type 0} {Q : A → Type 0} {R : Typing A} (f : Frame) (s : Setting) → IsGood s
    → ((inner : Setting) → IsGood inner → Sound (Both (At inner) (Ready f)) Q R) → Sound (Both (Among s) (Ready f)) Q R
both_among f s good inside = record {
  sound = λ x k l h b.
      let g = b.first in
      let inner : Setting = record { scopes = g.scope ∷ s.scopes; types = s.types ++ g.added; file_scope = s.file_scope } in
      let is_good : IsGood inner = record {
        scopes = (g.good, scopes_more s.types g.added s.scopes good.scopes);
        file_scope = scope_more s.types g.added s.file_scope good.file_scope;
      } in
      let within : At inner k = record { scopes = g.scopes; types = g.types; file_scope = g.file_scope } in
      let p = (inside inner is_good).sound x k l h (record { first = within; second = b.second }) in
      let at : At inner l = p.1.first in
      let among : Among s l = record {
        scope = g.scope;
        added = g.added;
        scopes = at.scopes;
        types = at.types;
        file_scope = at.file_scope;
        are = g.are;
        good = g.good;
      } in (p.0, record { first = among; second = p.1.second });
}

ready_declared : (f : Frame) (name : Option Named) (n : ℕ) → Sound (Ready f) Any (IsNamedLocal name n)
ready_declared f None n = sound_is tt
ready_declared f (Some name) n = sound_bind sound_holds (λ u p. sound_makes (ready_meaning f name.bytes (known.local n) tt))

ready_parameter : (f : Frame) (sp : Specifiers) (base : Qualified) (d : Declarator) (ds : List Derivation) → Sound (Ready f) Any (Parameter sp base d ds)
ready_parameter f sp base d ds =
    sound_bind sound_such_as (λ type p. sound_bind {P = Any} (sound_asks (λ k r. tt)) (λ n q. sound_bind (ready_declared f (name_of d) n) (λ u q'.
    sound_makes (λ k r. record { scopes = r.scopes; room = r.room; linkage = r.linkage }))))

pub both_parameter : (f : Frame) (s : Setting) (sp : Specifiers) (base : Qualified) (d : Declarator) (ds : List Derivation)
    → IsOfLanguage base.type → Each IsDerivation ds → Sound (Both (Among s) (Ready f)) Any (Parameter sp base d ds)
both_parameter f s sp base d ds b g = record {
  sound = λ x k l h i.
      let p = (sound_parameter s sp base d ds b g).sound x k l h i.first in
      let q = (ready_parameter f sp base d ds).sound x k l h i.second in
      (tt, record { first = p.1; second = q.1 });
}

-- ---- the whole list

-- a relation between places at which there is room
abbrev Where : (Known → Type 0) → Typing (Unit {0}) → Typing (Unit {0})
Where J R x k l = R x k l × J k

among_first : (s : Setting) (k : Known) → At s k → Among s (known.opened k)
among_first s k at = record {
  scope = [];
  added = [];
  scopes = ap (λ scopes. [] ∷ scopes) at.scopes;
  types = at.types ∙ sym (append-nil s.types);
  file_scope = at.file_scope;
  are = tt;
  good = tt;
}

where_ready : (f : Frame) (s : Setting) {R : Typing (Unit {0})} → Sound (Both (Among s) (Ready f)) Any R → Sound (Among s) Any (Where (Ready f) R)
where_ready f s r = record { sound = λ x k l h i. let p = r.sound x k l h.0 (record { first = i; second = h.1 }) in (tt, p.1.first) }

abbrev List_behind : ℕ → Typing (Unit {0}) → Typing (List Local)
List_behind before R = do
  Makes known.opened
  R
  found ← Asks (λ k. drop before k.locals)
  Makes (λ k. known.closed (known.with_locals (take before k.locals) k))
  Is found

-- the list as one whose parameters begin where there is room, and what is ready behind it
listed : (f : Frame) (s : Setting) (before : ℕ) {R : Typing (Unit {0})} → Sound (Both (Among s) (Ready f)) Any R
    → (x : List Local) (k l : Known) → List_behind before R x k l → Both (At s) (Ready f) k
    → List_behind before (Where (Ready f) R) x k l × Ready f l
listed f s before {R} r x k l h b =
    let opened : h.between ≡ known.opened k = h.first in
    let inner = h.second in
    let ready : Ready f h.between = subst (Ready f) (sym opened) (ready_opened f k b.second) in
    let among : Among s h.between = subst (Among s) (sym opened) (among_first s k b.first) in
    let p = r.sound inner.of h.between inner.between inner.first (record { first = among; second = ready }) in
    let asked = inner.second in
    let ended = asked.second in
    let left : Ready f inner.between = p.1.second in
    let after = ended.second.1 ∙ ended.first ∙ ap (λ m. known.closed (known.with_locals (take before m.locals) m)) asked.first.1 in (
      record {
        of = h.of;
        between = h.between;
        first = h.first;
        second = record { of = inner.of; between = inner.between; first = (inner.first, ready); second = inner.second };
      },
      subst (Ready f) (sym after)
          (ready_closed f (known.with_locals (take before inner.between.locals) inner.between)
          (record { scopes = left.scopes; room = left.room; linkage = left.linkage })),
    )

pub both_parameter_list : (f : Frame) (s : Setting) (ps : Parameters) {R : Typing (Unit {0})} → Sound (Both (Among s) (Ready f)) Any R
    → Sound (Both (At s) (Ready f)) (Each IsOwn) (IsParameterList ps R)
both_parameter_list f s ps r = record {
  sound = λ x k l h b. elim h [
    | inl p ↦
        let q = (sound_parameter_list s ps (where_ready f s r)).sound x k l (inl p) b.first in
        (q.0, record { first = q.1; second = subst (Ready f) (sym p.1.1) b.second })
    | inr p ↦
        let first = p.1.first in
        let at : Both (At s) (Ready f) p.1.between = subst (Both (At s) (Ready f)) (sym first.1) b in
        let both = listed f s p.1.of r x p.1.between l p.1.second at in
        let again = inr (p.0, record { of = p.1.of; between = p.1.between; first = first; second = both.0 }) in
        let q = (sound_parameter_list s ps (where_ready f s r)).sound x k l again b.first in
        (q.0, record { first = q.1; second = both.1 })
  ];
}
