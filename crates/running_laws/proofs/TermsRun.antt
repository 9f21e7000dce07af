-- Every expression runs, and every type that a declarator names leaves room for what is counted.
use Rattle.std.proofs.Common.{ℕ, true, false, arith}
use Rattle.srmt_base.specs.declared.op.Op.TheVariants.{Add, Sub}
use Rattle.c_tree.specs.declared.operator.PrefixOp.TheVariants as pre
use Rattle.c_tree.specs.declared.operator.PostfixOp.TheVariants as post
use Rattle.source_meaning.specs.Values.{IsValue}
use Rattle.typing_rules.specs.Source.{Expr, at, name, number, character, text, parenthesized, index, call, prefix, postfix, sizeof_expr, sizeof_type, cast, binary, conjunction, disjunction, choice, assignment, compound, comma, Exprs, no_exprs, first_expr, TypeName, type_name, Declarator, declarator, Parts, no_parts, pointer_part, array_part, unsized_part, function_part, Parameters, no_parameters, first_parameter, line_of}
use Rattle.typing_rules.specs.Terms.{Term, one_value, Change, change_by}
use Rattle.typing_rules.specs.Holding.{Typing}
use Rattle.typing_rules.specs.Typing.{IsStepped, IsTerm, AreAll, IsTypeNamed, AreDerivations, AreParts, AreParameters}
use Rattle.typing_rules.specs.Laws.{Each}
use Rattle.typing_rules.specs.LanguageTypes.{IsOfLanguage, HasTypes}
use Rattle.typing_rules.proofs.Sound.{Sound, Any, sound_is, sound_such, sound_bind, sound_such_as}
use Rattle.typing_rules.proofs.LanguageNodesMade.{integer_is, type_is, values_have}
use Rattle.typing_rules.proofs.LanguageKnown.{Setting, At, IsGood}
use Rattle.typing_rules.proofs.DerivedTypes.{IsDerivation, sound_specified, derived_is}
use Rattle.typing_rules.proofs.ParametersSound.{Among}
use Rattle.typing_rules.proofs.PartsSound.{sound_named, sound_text, sound_indexed, sound_indirect, sound_address, sound_opposite, sound_promoted, sound_negative, sound_complemented, sound_computed, sound_conjoined, sound_disjoined, sound_chosen}
use Rattle.typing_rules.proofs.CallsSound.{sound_assigned, sound_changed, sound_cast, sound_unvalued, sound_sized, sound_called, sound_call}
use Rattle.running_laws.specs.HasNumbers.{IsConstant, ExprHasNumbers, ExprsHaveNumbers, TypeHasNumbers, DeclaratorHasNumbers, PartsHaveNumbers, ParametersHaveNumbers}
use Rattle.running_laws.proofs.Running.{Runs}
use Rattle.running_laws.proofs.NodesRun.{values_run}
use Rattle.running_laws.proofs.Ready.{Frame, Ready, Both}
use Rattle.running_laws.proofs.PartsRun.{TermIs, WrittenIs, term_is, written_is, is_target, target_has, all_typed, all_run, runs_named, runs_text, runs_indexed, runs_indirect, runs_address, runs_opposite, runs_promoted, runs_negative, runs_complemented, runs_computed, runs_conjoined, runs_disjoined, runs_chosen, runs_assigned, runs_changed, runs_cast, runs_sized, runs_called, runs_call}
use Rattle.running_laws.proofs.ParametersRun.{both_among, both_parameter, both_parameter_list}

constant_is_value : (n : ℕ) → IsConstant n → IsValue n
constant_is_value n h = omega (arith, h)

one_is : (line : ℕ) → WrittenIs (one_value line)
unfolding HasTypes Runs
one_is line = record { has = (integer_is _, tt); runs = one_is_constant }
  where
    one_is_constant : IsValue 1
    one_is_constant = constant_is_value 1 (omega arith)

module _ (f : Frame) where
  is_stepped : {s : Setting} (line : ℕ) (c : Change) {S : Typing Term} → Sound (Both (At s) (Ready f)) TermIs S
      → Sound (Both (At s) (Ready f)) TermIs (IsStepped line c S)
  is_stepped line c h =
      sound_bind h (λ term p. sound_bind (is_target term p) (λ target q.
      term_is (sound_changed line c target (one_value line) (target_has target q) (one_is line).has)
      (runs_changed line c target (one_value line) q (one_is line))))

  mutual
    unfolding IsTerm HasTypes Runs ExprHasNumbers

    pub is_term : (s : Setting) → IsGood s → (e : Expr) → ExprHasNumbers e → Sound (Both (At s) (Ready f)) TermIs (IsTerm e)
    is_term s g (at line (name bytes)) n = term_is (sound_named s g line bytes) (runs_named f line bytes)
    is_term s g (at line (number ty m)) n = sound_is (record { has = (integer_is ty, tt); runs = constant_is_value m n })
    is_term s g (at line (character m)) n = sound_is (record { has = (integer_is _, tt); runs = constant_is_value m n })
    is_term s g (at line (text bytes)) n = term_is (sound_text s line bytes) (runs_text f line bytes)
    is_term s g (at line (parenthesized e)) n = is_term s g e n
    is_term s g (at line (index e op i)) n =
        sound_bind (written_is (line_of e) (is_term s g e n.0)) (λ a p. sound_bind (written_is (line_of i) (is_term s g i n.1)) (λ b q.
        term_is (sound_indexed line op a b p.has q.has) (runs_indexed line op a b p q)))
    is_term s g (at line (call e op es)) n =
        sound_bind (is_term s g e n.0) (λ callee p.
        sound_bind (term_is (sound_called callee p.has) (runs_called callee p.runs)) (λ function q.
        sound_bind (are_all s g es n.1) (λ arguments r.
        term_is (sound_call s line op function arguments q.has (all_typed arguments r)) (runs_call f line op function arguments q.runs r))))
    is_term s g (at line (prefix pre.Increment e)) n = is_stepped line (change_by false (line_of e) Add line) (is_term s g e n)
    is_term s g (at line (prefix pre.Decrement e)) n = is_stepped line (change_by false (line_of e) Sub line) (is_term s g e n)
    is_term s g (at line (prefix pre.AddressOf e)) n =
        sound_bind (is_term s g e n) (λ term p. term_is (sound_address s line term p.has) (runs_address f line term p.runs))
    is_term s g (at line (prefix pre.Indirection e)) n =
        sound_bind (written_is (line_of e) (is_term s g e n)) (λ a p. term_is (sound_indirect line a p.has) (runs_indirect line a p))
    is_term s g (at line (prefix pre.Plus e)) n =
        sound_bind (written_is (line_of e) (is_term s g e n)) (λ a p. term_is (sound_promoted line a p.has) (runs_promoted line a p))
    is_term s g (at line (prefix pre.Minus e)) n =
        sound_bind (written_is (line_of e) (is_term s g e n)) (λ a p. term_is (sound_negative line a p.has) (runs_negative line a p))
    is_term s g (at line (prefix pre.Complement e)) n =
        sound_bind (written_is (line_of e) (is_term s g e n)) (λ a p. term_is (sound_complemented line a p.has) (runs_complemented line a p))
    is_term s g (at line (prefix pre.Not e)) n =
        sound_bind (written_is (line_of e) (is_term s g e n)) (λ a p. term_is (sound_opposite line a p.has) (runs_opposite line a p))
    is_term s g (at line (postfix post.Increment op e)) n = is_stepped line (change_by true (line_of e) Add op) (is_term s g e n)
    is_term s g (at line (postfix post.Decrement op e)) n = is_stepped line (change_by true (line_of e) Sub op) (is_term s g e n)
    is_term s g (at line (sizeof_expr e)) n =
        sound_bind (is_term s g e n) (λ term p. sound_bind (sound_unvalued term p.has) (λ type l.
        term_is (sound_sized line type) (runs_sized line type l)))
    is_term s g (at line (sizeof_type t)) n =
        sound_bind (is_type_named s g t n) (λ type l. term_is (sound_sized line type.type) (runs_sized line type.type l))
    is_term s g (at line (cast t e)) n =
        sound_bind (is_type_named s g t n.0) (λ type l. sound_bind (written_is (line_of e) (is_term s g e n.1)) (λ a p.
        term_is (sound_cast line type a l p.has) (runs_cast line type a p)))
    is_term s g (at line (binary o op e i)) n =
        sound_bind (written_is (line_of e) (is_term s g e n.0)) (λ a p. sound_bind (written_is (line_of i) (is_term s g i n.1)) (λ b q.
        term_is (sound_computed line o op a b p.has q.has) (runs_computed line o op a b p q)))
    is_term s g (at line (conjunction op e i)) n =
        sound_bind (written_is (line_of e) (is_term s g e n.0)) (λ a p. sound_bind (written_is (line_of i) (is_term s g i n.1)) (λ b q.
        term_is (sound_conjoined line op a b p.has q.has) (runs_conjoined line a b p q)))
    is_term s g (at line (disjunction op e i)) n =
        sound_bind (written_is (line_of e) (is_term s g e n.0)) (λ a p. sound_bind (written_is (line_of i) (is_term s g i n.1)) (λ b q.
        term_is (sound_disjoined line op a b p.has q.has) (runs_disjoined line a b p q)))
    is_term s g (at line (choice op c e i)) n =
        sound_bind (written_is (line_of c) (is_term s g c n.0)) (λ test r. sound_bind (written_is (line_of e) (is_term s g e n.1)) (λ a p.
        sound_bind (written_is (line_of i) (is_term s g i n.2)) (λ b q.
        term_is (sound_chosen line op test a b r.has p.has q.has) (runs_chosen line test a b r p q))))
    is_term s g (at line (assignment op e i)) n =
        sound_bind (is_term s g e n.0) (λ left r. sound_bind (is_target left r) (λ target p.
        sound_bind (written_is (line_of i) (is_term s g i n.1)) (λ a q.
        term_is (sound_assigned line op target a (target_has target p) q.has) (runs_assigned line target a p q))))
    is_term s g (at line (compound o op e i)) n =
        sound_bind (is_term s g e n.0) (λ left r. sound_bind (is_target left r) (λ target p.
        sound_bind (written_is (line_of i) (is_term s g i n.1)) (λ a q.
        term_is (sound_changed line (change_by false (line_of e) o op) target a (target_has target p) q.has)
        (runs_changed line (change_by false (line_of e) o op) target a p q))))
    is_term s g (at line (comma es e)) n =
        sound_bind (are_all s g es n.0) (λ dropped p. sound_bind (written_is (line_of e) (is_term s g e n.1)) (λ last q.
        sound_is (record {
          has = (type_is last.value q.has, (values_have dropped (all_typed dropped p), q.has));
          runs = (values_run dropped (all_run dropped p), q.runs);
        })))

    are_all : (s : Setting) → IsGood s → (es : Exprs) → ExprsHaveNumbers es → Sound (Both (At s) (Ready f)) (Each WrittenIs) (AreAll es)
    are_all s g no_exprs n = sound_is tt
    are_all s g (first_expr e es) n =
        sound_bind (written_is (line_of e) (is_term s g e n.0)) (λ a p. sound_bind (are_all s g es n.1) (λ rest q. sound_is (p, q)))

    is_type_named : (s : Setting) → IsGood s → (t : TypeName) → TypeHasNumbers t
        → Sound (Both (At s) (Ready f)) (λ type. IsOfLanguage type.type) (IsTypeNamed t)
    is_type_named s g (type_name sp d) n =
        sound_bind (sound_specified false sp) (λ base p. sound_bind (are_derivations s g d n) (λ ds q.
        sound_such (λ type h. derived_is base.type ds type h q p)))

    pub are_derivations : (s : Setting) → IsGood s → (d : Declarator) → DeclaratorHasNumbers d
        → Sound (Both (At s) (Ready f)) (Each IsDerivation) (AreDerivations d)
    are_derivations s g (declarator line naming parts) n = are_parts s g parts n

    are_parts : (s : Setting) → IsGood s → (ps : Parts) → PartsHaveNumbers ps → Sound (Both (At s) (Ready f)) (Each IsDerivation) (AreParts ps)
    are_parts s g no_parts n = sound_is tt
    are_parts s g (pointer_part q ps) n = sound_bind (are_parts s g ps n) (λ rest p. sound_is (tt, p))
    are_parts s g (array_part line e ps) n =
        sound_bind (written_is (line_of e) (is_term s g e n.0)) (λ a p. sound_bind sound_such_as (λ m h.
        sound_bind (are_parts s g ps n.1) (λ rest q. sound_is ((h.2, h.3), q))))
    are_parts s g (unsized_part line ps) n = sound_bind (are_parts s g ps n) (λ rest p. sound_is (tt, p))
    are_parts s g (function_part line list ps) n =
        sound_bind (both_parameter_list f s list (are_parameters s g list n.0)) (λ found p.
        sound_bind (are_parts s g ps n.1) (λ rest q. sound_is (p, q)))

    are_parameters : (s : Setting) → IsGood s → (ps : Parameters) → ParametersHaveNumbers ps
        → Sound (Both (Among s) (Ready f)) Any (AreParameters ps)
    are_parameters s g no_parameters n = sound_is tt
    are_parameters s g (first_parameter sp d rest) n =
        sound_bind (sound_specified false sp) (λ base p. sound_bind (both_among f s g (λ inner i. are_derivations inner i d n.0)) (λ ds q.
        sound_bind (both_parameter f s sp base.type d ds p q) (λ u r. are_parameters s g rest n.1)))
