-- What specifiers say, from the parts of it.
use Rattle.std.proofs.Common.{◌≡◌, ℕ, Bool as Test, true, false, if◌then◌else◌, List, Option, Some, None, Ok, Err, refl, sym, inl}
use Rattle.c_tree.specs.declared.specifier.SpecifierWord.{SpecifierWord}
use Rattle.c_types.specs.declared.type_ref.Row.{Row}
use Rattle.c_types.specs.Types.{CType}
use Rattle.c_types.specs.Rules.{Ruled}
use Rattle.typing_rules.specs.declared.refusal.TypeRefusal.TheVariants.{Mismatch}
use Rattle.typing_rules.specs.Known.{Known}
use Rattle.typing_rules.specs.Checking.{ruled_by}
use Rattle.typing_rules.specs.SpecifierRules as rule
use Rattle.c_values.specs.Answers.{AnswersAt}
use Rattle.c_declarators.specs.declared.specifier.SpecifiedType.{SpecifiedType}
use Rattle.c_declarators.specs.Specifiers.{MeansSpecified, Names, Says, storage_view}

pub none-says : (rows : List Row) (b : Test) (o : Option CType) (words : List SpecifierWord) → Names rows None o → Says rows None (if b then rule.specified_as o words else Err 21)
none-says rows true None words h = refl
none-says rows true (Some t) words h = absurd h
none-says rows false o words h = refl

pub some-says : (rows : List Row) (x : SpecifiedType) (b : Test) (o : Option CType) (words : List SpecifierWord) → b ≡ true → Names rows (Some x.ty.target) o
    → storage_view x.storage ≡ rule.storage_in words → x.ty.qualifiers ≡ rule.qualifiers_in words → Says rows (Some x) (if b then rule.specified_as o words else Err 21)
some-says rows x true None words is h storage qualifiers = absurd h
some-says rows x true (Some t) words is h storage qualifiers = record { storage = storage; type = record { qualifiers = qualifiers; type = h } }
some-says rows x false o words is h storage qualifiers = cc

pub said-answers : (rows : List Row) (k : Known) (line : ℕ) (r : Ruled rule.Specified) (x : SpecifiedType) → Says rows (Some x) r → AnswersAt (MeansSpecified rows) k (Ok x) (ruled_by line r k)
said-answers rows k line (Ok s) x h = (h, refl)
said-answers rows k line (Err n) x h = absurd h

pub unsaid-answers : (rows : List Row) (k : Known) (line told : ℕ) (r : Ruled rule.Specified) → told ≡ line → Says rows None r
    → AnswersAt {X = SpecifiedType} (MeansSpecified rows) k (Err (Mismatch told 21)) (ruled_by line r k)
unsaid-answers rows k line told (Ok s) is h = absurd h
unsaid-answers rows k line told (Err n) is h = inl (λ i. Mismatch (is i) (sym h i))
