use Rattle.std.proofs.Common.{◌≡◌, List, [], ◌∷◌, ℕ, None, refl}
use Rattle.std.proofs.lemmas.Result.{IfOk-weaker}
use Rattle.upset.specs.declared.upset.Upset.{Upset}
use Rattle.upset.specs.Lists.{list_text, IsList}
use Rattle.upset.specs.Reading.{Reads}
use Rattle.upset.proofs.Listing.{reads-list, list-reads, reads-one}
use Rattle.upset.proofs.list.read_list.Goals as goal

-- a list is read of its text
again : (us : List Upset) (bytes : List ℕ) → IsList us → bytes ≡ list_text us → Reads None bytes us
unfolding IsList
again [] bytes h e = absurd h
again (u ∷ us) bytes h e = list-reads u us None bytes h refl e

pub returns-clause-found : goal.returns-clause-found
returns-clause-found c =
    IfOk-weaker c.whole.result _ _ (λ list read. (let l = reads-list list.items None c.args.text.now read in (l.ranged, l.is))) c.whole.ensures.found

pub returns-clause-one : goal.returns-clause-one
returns-clause-one c = λ a b is_a is_b same. reads-one a b None (list_text a) (again a (list_text a) is_a refl) (again b (list_text a) is_b same)

pub returns-clause-bad : goal.returns-clause-bad
returns-clause-bad c = λ refused list is same. c.whole.ensures.bad refused list (again list _ is same)
