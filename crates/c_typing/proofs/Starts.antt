-- What a static object starts with, as the code makes it.
use Rattle.std.proofs.Common.{arith, ◌≡◌, ℕ, suc, ◌+◌, ◌<◌, Bool as Test, true, ◌&&◌, List, [], ◌∷◌, ◌++◌, map, length, take, get_or, refl, sym, ◌∙◌, ap}
use Rattle.std.proofs.Math.Seq.{take-suc}
use Rattle.std.proofs.lemmas.List.{map-append}
use Rattle.c_types.specs.declared.type_ref.Row.{Row}
use Rattle.c_types.specs.declared.type_ref.QualifiedRef.{QualifiedRef}
use Rattle.c_types.specs.Types.{Qualified, may_be_one}
use Rattle.c_types.specs.Table.{type_at, qualified_at, Extends, StandsFor}
use Rattle.c_types.proofs.Grown.{Extends-trans}
use Rattle.c_typed.specs.declared.statement.Cell as code_cell
use Rattle.c_typed.specs.StatementViews.{cell_view}
use Rattle.typing_rules.specs.DeclarationRules as rule
use Rattle.c_known.proofs.Growing.{stands-for-later}
use Rattle.c_linkage.proofs.Linked.{qualified-is}
use Rattle.c_declarations.specs.declared.initializer.Initialized.{Initialized}
use Rattle.c_declarations.specs.Parts.{MeansInitialized}
use Rattle.c_typing.specs.Contents.{cell_start}

-- one more cell
pub start-next : (rows : List Row) (cs : List code_cell.Cell) (i : ℕ) (c : code_cell.Cell) → i < length cs → c ≡ get_or cs i c
    → map (cell_start rows) (take (i + 1) cs) ≡ map (cell_start rows) (take i cs) ++ cell_start rows c ∷ []
start-next rows cs i c within is =
    let next : i + 1 ≡ suc i = omega arith in
    ap (λ n. map (cell_start rows) (take n cs)) next
    ∙ ap (map (cell_start rows)) (take-suc cs i c within)
    ∙ ap (λ x. map (cell_start rows) (take i cs ++ x ∷ [])) (sym is)
    ∙ map-append (cell_start rows) (take i cs) (c ∷ [])

pub starts-mapped : (rows : List Row) (cs : List code_cell.Cell) → map (cell_start rows) cs ≡ rule.starts_of (map (cell_view (type_at rows)) cs)
starts-mapped rows [] = refl
starts-mapped rows (c ∷ cs) = ap (λ xs. cell_start rows c ∷ xs) (starts-mapped rows cs)

pub initialized-later : (old rows : List Row) → Extends old rows → (x : Initialized) (i : rule.Initialized) → MeansInitialized old x i → MeansInitialized rows x i
initialized-later old rows grown x i means = record {
  type = stands-for-later grown means.type;
  given = record { always = λ later more. means.given.always later (Extends-trans grown more) };
}

-- where the first of two tests holds
pub second-of : (x y z : Test) → x ≡ true → y ≡ z → y ≡ (x && z)
second-of x y z first second = second ∙ ap (λ b. b && z) (sym first)

-- a type agrees with two others
pub agreeing : (rows : List Row) (r u v : QualifiedRef) (t a b : Qualified) (x y : Test) → StandsFor rows r t → StandsFor rows u a → StandsFor rows v b
    → x ≡ may_be_one (qualified_at rows r) (qualified_at rows u) → x ≡ true → y ≡ may_be_one (qualified_at rows r) (qualified_at rows v)
    → y ≡ (may_be_one t a && may_be_one t b)
agreeing rows r u v t a b x y first second third is holds other =
    second-of (may_be_one t a) y (may_be_one t b)
    (sym (is ∙ (λ i. may_be_one (qualified-is rows r t first i) (qualified-is rows u a second i))) ∙ holds)
    (other ∙ (λ i. may_be_one (qualified-is rows r t first i) (qualified-is rows v b third i)))
