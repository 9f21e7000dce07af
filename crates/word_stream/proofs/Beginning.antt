-- The exchange with which a row of words begins.
use Rattle.std.proofs.Common.{◌≡◌, ◌<◌, ◌^◌, ℕ, zero, suc, List, [], ◌∷◌, length, take, Option, Some, None, refl, ap, ◌∙◌, sym, subst, arith}
use Rattle.std.specs.Prelude.{All, slice_get}
use Rattle.srmt_base.specs.declared.word.Kind.TheVariants.{Check}
use Rattle.srmt_base.specs.Word.{word_of, kind_part, site_part, value_part}
use Rattle.word_stream.specs.declared.request.Request.{Request}
use Rattle.word_stream.specs.declared.request.Response.{Response}
use Rattle.word_stream.specs.declared.request.Response.TheVariants.{Done}
use Rattle.srmt_base.specs.declared.request_kind.RequestKind.{RequestKind}
use Rattle.srmt_base.specs.declared.word.Site.{Site}
use Rattle.word_stream.specs.declared.table.SiteRow.{SiteRow}
use Rattle.word_stream.specs.declared.table.SiteTable.{SiteTable}
use Rattle.word_stream.specs.Exchange.{request_site}
use Rattle.word_stream.specs.Reading.{row_at, kind_of, request_of, Begins}
use Rattle.word_stream.proofs.Spelled.{Spells, spells_one, request_of-spelled, done_alone, exchange-one, small-one}

take_one : {X : Type 0} (xs : List X) (x : X) → slice_get xs 0 ≡ Some x → take 1 xs ≡ x ∷ []
take_one [] x at = absurd (cc)
take_one (y ∷ ys) x at = let same : y ≡ x = cc in ap (λ z. z ∷ []) same

taken_one : {X : Type 0} (n : ℕ) (xs : List X) (x : X) → take n xs ≡ x ∷ [] → slice_get xs 0 ≡ Some x
taken_one zero xs x is = absurd (cc)
taken_one (suc n) [] x is = absurd (cc)
taken_one (suc n) (y ∷ ys) x is = ap Some (let same : y ≡ x = cc in same)

pub all_one : (value : ℕ) → value < 2 ^ 44 → All (λ v. v < 2 ^ 44) (value ∷ [])
all_one value small zero d within = small
all_one value small (suc k) d within = absurd (omega arith)

-- a number of the kind Check is that of its parts
pub check_parts : (word : ℕ) → kind_part word ≡ 1 → word ≡ word_of Check (site_part word) (value_part word)
check_parts word kind = omega arith

-- what is read from a word
pub begins_one : (table : SiteTable) (words : List ℕ) (word : ℕ) (q : Request) (row : SiteRow) (site value : ℕ) → slice_get words 0 ≡ Some word → word ≡ word_of Check site value →
    Spells q site value → row_at table site ≡ Some row → row.request ≡ kind_of q → site < 2 ^ 16 → value < 2 ^ 44 → Begins table words q Done 1
begins_one table words word q row site value at is s found kind site_small value_small = record {
  allowed = record {
    row = row;
    found = ap (row_at table) s.site_so ∙ found;
    kind = kind;
    site = rw s.site_so site_small;
    values = subst (All (λ v. v < 2 ^ 44)) (sym s.operand) (all_one value value_small);
  };
  first = take_one words word at ∙ ap (λ w. w ∷ []) is ∙ sym (exchange-one q Done site value s);
  long = ap length (sym (exchange-one q Done site value s));
}

-- what is known where words begin with some exchange
pub record Told (table : SiteTable) (words : List ℕ) (q : Request) (r : Response) (count : ℕ) : Type 0 where
  pub value : ℕ
  pub here : slice_get words 0 ≡ Some (word_of Check (request_site q) value)
  pub row : SiteRow
  pub found : row_at table (request_site q) ≡ Some row
  pub kind : row.request ≡ kind_of q
  pub site_small : request_site q < 2 ^ 16
  pub value_small : value < 2 ^ 44
  pub whole : request_of (kind_of q) (record { 0 = request_site q }) value ≡ Some q
  pub done : Done ≡ r
  pub one : 1 ≡ count

pub told : (table : SiteTable) (words : List ℕ) (q : Request) (r : Response) (count : ℕ) → Begins table words q r count → Told table words q r count
told table words q r count b =
    let s = (spells_one q).1 in
    let word = exchange-one q r (request_site q) (spells_one q).0 s in
    record {
      value = (spells_one q).0;
      here = taken_one count words (word_of Check (request_site q) (spells_one q).0) (b.first ∙ word);
      row = b.allowed.row;
      found = b.allowed.found;
      kind = b.allowed.kind;
      site_small = b.allowed.site;
      value_small = small-one q (request_site q) (spells_one q).0 s b.allowed.values;
      whole = request_of-spelled q;
      done = done_alone r;
      one = sym (b.long ∙ ap length word);
    }

-- the same, by the first word
pub record Matches (table : SiteTable) (word : ℕ) (q : Request) : Type 0 where
  pub row : SiteRow
  pub found : row_at table (site_part word) ≡ Some row
  pub check : kind_part word ≡ 1
  pub whole : request_of row.request (record { 0 = site_part word }) (value_part word) ≡ Some q

pub matches : (table : SiteTable) (words : List ℕ) (word : ℕ) (q : Request) (r : Response) (count : ℕ) → slice_get words 0 ≡ Some word → Begins table words q r count → Matches table word q
matches table words word q r count at b =
    let t = told table words q r count b in
    let same : word ≡ word_of Check (request_site q) t.value = let both : Some word ≡ Some (word_of Check (request_site q) t.value) = sym at ∙ t.here in cc in
    let site_small = t.site_small in
    let value_small = t.value_small in
    let kind : kind_part word ≡ 1 = omega arith in
    let site : site_part word ≡ request_site q = omega arith in
    let value : value_part word ≡ t.value = omega arith in
    record {
      row = t.row;
      found = ap (row_at table) site ∙ t.found;
      check = kind;
      whole =
          ap (λ s. request_of t.row.request (record { 0 = s }) (value_part word)) site ∙ ap (request_of t.row.request (record { 0 = request_site q })) value
          ∙ ap (λ k. request_of k (record { 0 = request_site q }) t.value) t.kind ∙ t.whole;
    }

-- no words begin with none
pub matches_none : (table : SiteTable) (words : List ℕ) (q : Request) (r : Response) (count : ℕ) → slice_get words 0 ≡ None → Begins table words q r count → ⊥
matches_none table words q r count none b =
    let clash : None ≡ Some (word_of Check (request_site q) (told table words q r count b).value) = sym none ∙ (told table words q r count b).here in
    cc

-- what is read from the first word
pub read_one : (table : SiteTable) (words : List ℕ) (word : ℕ) (q : Request) (row : SiteRow) (site value : ℕ) → slice_get words 0 ≡ Some word → kind_part word ≡ 1 → site ≡ site_part word → value ≡ value_part word →
    Spells q site value → row_at table site ≡ Some row → row.request ≡ kind_of q → Begins table words q Done 1
read_one table words word q row site value at kind site_is value_is s found asked =
    let is : word ≡ word_of Check site value = check_parts word kind ∙ ap (λ n. word_of Check n (value_part word)) (sym site_is) ∙ ap (word_of Check site) (sym value_is) in
    begins_one table words word q row site value at is s found asked (omega (arith, site_is)) (omega (arith, value_is))

-- an exchange and its length, as they are answered
abbrev pub found_as : Request → Response → ℕ → Option (Request × Response × ℕ)
found_as q r count = Some (q, r, count)

-- it is what the words begin with
module _ (table : SiteTable) (words : List ℕ) (word : ℕ) (q : Request) (r : Response) (count : ℕ) (row : SiteRow) (site : Site) (value : ℕ) (at : slice_get words 0 ≡ Some word) (site_is : site.0 ≡ site_part word) (value_is : value ≡ value_part word) (found : row_at table site.0 ≡ Some row) (b : Begins table words q r count) where
  pub asked_here : request_of row.request site value ≡ Some q
  asked_here =
      let m = matches table words word q r count at b in
      let rows : row ≡ m.row = let both : Some row ≡ Some m.row = sym found ∙ ap (row_at table) site_is ∙ m.found in cc in
      ap (λ (o : SiteRow). request_of o.request site value) rows ∙ ap (λ s. request_of m.row.request (record { 0 = s }) value) site_is ∙ ap (request_of m.row.request (record { 0 = site_part word })) value_is ∙ m.whole

  pub same_row : (p : Request) → request_of row.request site value ≡ Some p → found_as p Done 1 ≡ found_as q r count
  same_row p asked =
      let t = told table words q r count b in
      let same : p ≡ q = let both : Some p ≡ Some q = sym asked ∙ asked_here in cc in
      rw (same, t.done, t.one) refl
