-- The words of each request, and the request that words spell.
use Rattle.std.proofs.Common.{◌≡◌, ◌<◌, ◌^◌, ℕ, [], ◌∷◌, ◌⊎◌, inl, inr, Some, refl, sym, ap, subst, arith}
use Rattle.std.specs.Prelude.{All}
use Rattle.srmt_base.specs.declared.word.Site.{Site}
use Rattle.srmt_base.specs.declared.word.Kind.TheVariants.{Check}
use Rattle.srmt_base.specs.Word.{word_of}
use Rattle.srmt_base.specs.declared.request_kind.RequestKind.{RequestKind}
use Rattle.srmt_base.specs.declared.request_kind.RequestKind.TheVariants.{Put as AsksPut, Exit as AsksExit}
use Rattle.word_stream.specs.declared.request.Request.{Request}
use Rattle.word_stream.specs.declared.request.Request.TheVariants.{Put, Exit}
use Rattle.word_stream.specs.declared.request.Response.{Response}
use Rattle.word_stream.specs.declared.request.Response.TheVariants.{Done}
use Rattle.word_stream.specs.Exchange.{request_site, operands_of, response_words, exchange}
use Rattle.word_stream.specs.Reading.{kind_of, request_of}

-- a request with one operand
pub record Spells (q : Request) (site value : ℕ) : Type 0 where
  pub site_so : request_site q ≡ site
  pub operand : operands_of q ≡ value ∷ []

-- one case for each request
pub spells_put : (site : Site) (value : ℕ) → Spells (Put site value) site.0 value
unfolding operands_of request_site
spells_put site value = record { site_so = refl; operand = refl }

pub spells_exit : (site : Site) (value : ℕ) → Spells (Exit site value) site.0 value
unfolding operands_of request_site
spells_exit site value = record { site_so = refl; operand = refl }

pub spells_one : (q : Request) → (value : ℕ) × Spells q (request_site q) value
unfolding operands_of request_site
spells_one (Put site value) = (value, record { site_so = refl; operand = refl })
spells_one (Exit site value) = (value, record { site_so = refl; operand = refl })

pub request_of-spelled : (q : Request) → request_of (kind_of q) (record { 0 = request_site q }) (spells_one q).0 ≡ Some q
unfolding kind_of request_site spells_one
request_of-spelled (Put site value) = refl
request_of-spelled (Exit site value) = refl

-- and what a request of a kind spells
pub record IsRequest (kind : RequestKind) (site : Site) (value : ℕ) (q : Request) : Type 0 where
  pub spells : Spells q site.0 value
  pub kind_is : kind ≡ kind_of q

pub request_spelled : (kind : RequestKind) (site : Site) (value : ℕ) (q : Request) → request_of kind site value ≡ Some q → IsRequest kind site value q
unfolding kind_of
request_spelled AsksPut site value q h = let e : Put site value ≡ q = cc in record { spells = subst (λ r. Spells r site.0 value) e (spells_put site value); kind_is = ap kind_of e }
request_spelled AsksExit site value q h = let e : Exit site value ≡ q = cc in record { spells = subst (λ r. Spells r site.0 value) e (spells_exit site value); kind_is = ap kind_of e }
request_spelled _ site value q h = absurd (cc)

-- a response of a request without a result
pub no_words : (q : Request) (r : Response) → response_words q r ≡ []
unfolding response_words
no_words q Done = refl

pub done_alone : (r : Response) → Done ≡ r
done_alone Done = refl

pub exchange-one : (q : Request) (r : Response) (site value : ℕ) → Spells q site value → exchange q r ≡ word_of Check site value ∷ []
exchange-one q r site value s = rw (no_words q r, s.site_so, s.operand) refl

pub small-one : (q : Request) (site value : ℕ) → Spells q site value → All (λ v. v < 2 ^ 44) (operands_of q) → value < 2 ^ 44
small-one q site value s all =
    let here : All (λ v. v < 2 ^ 44) (value ∷ []) = subst (All (λ v. v < 2 ^ 44)) s.operand all in
    here 0 0 (omega arith)

-- of either kind
pub spells_either : (q : Request) (site : Site) (value : ℕ) → (q ≡ Put site value) ⊎ (q ≡ Exit site value) → Spells q site.0 value
spells_either q site value (inl is) = subst (λ r. Spells r site.0 value) (sym is) (spells_put site value)
spells_either q site value (inr is) = subst (λ r. Spells r site.0 value) (sym is) (spells_exit site value)
