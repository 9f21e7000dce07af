use Rattle.std.proofs.Common.{◌≡◌, ◌<◌, ◌≤◌, true, [], ◌∷◌, length, Err, refl, sym, ap, ◌∙◌, get_or, append-nil, arith}
use Rattle.std.proofs.lemmas.Result.{err_from_is_err_and}
use Rattle.c_lexer.specs.Tokens.{Lexes, Refuses}
use Rattle.c_lexer.proofs.Sources.{found_fault, refuses_now, lexes_end, goes_on_to, fails_on_to, lexes_once, lexes_or_refuses, refused_from, only_from, first_from, blank_found, blank_word}
use Rattle.c_lexer.specs.declared.piece.Piece.TheVariants.{Blank}
use Rattle.c_lexer.proofs.Feeds.{line_now}
use Rattle.c_lexer.proofs.Wholes.{lexes_within, lexes_have}
use Rattle.c_lexer.proofs.lexer.tokens.Goals as goal

-- the fault of what is left is the fault of the source
fault : (c : goal.After-drop-kept) → Refuses c.args.src.now c.in_err-piece.field-0.0
fault c =
    let place = c.loop-rest.place in
    let rest = c.loop-rest.rest.now in
    c.loop-rest.invariant.fails_on c.in_err-piece.field-0.0
    (refuses_now place.is_first place.at rest c.in_err-piece.field-0.0 (found_fault place.is_first place.at rest c.in_err-piece.field-0.0 (grind arith) (sym c.in_err-piece.ensures.value)))

result_is : (c : goal.After-drop-kept) → c.from_residual-in_err-piece.result ≡ Err c.in_err-piece.field-0.0
result_is c = let p = err_from_is_err_and c.from_residual-in_err-piece.result c.from_residual-in_err-piece.ensures.1 in p.1 ∙ ap Err p.2

pub returns-in_err-piece-clause-refused : goal.returns-in_err-piece-clause-refused
returns-in_err-piece-clause-refused c = refused_from c.args.src.now c.from_residual-in_err-piece.result c.in_err-piece.field-0.0 (result_is c) (fault c)

pub returns-in_err-piece-clause-only : goal.returns-in_err-piece-clause-only
returns-in_err-piece-clause-only c = λ list l. only_from (λ found. found.items ≡ list) c.args.src.now c.from_residual-in_err-piece.result c.in_err-piece.field-0.0 (result_is c) (fault c) list l

pub returns-in_err-piece-clause-first : goal.returns-in_err-piece-clause-first
returns-in_err-piece-clause-first c = first_from c.args.src.now c.from_residual-in_err-piece.result c.in_err-piece.field-0.0 (result_is c) (fault c)

pub loop-rest-preserved : goal.loop-rest-preserved
loop-rest-preserved c =
    let place = c.loop-rest.place in
    let next = c.past-next.result in
    let bytes = c.loop-rest.rest.now in
    let some : 0 < length bytes = grind arith in
    let fits = c.in_ok-piece.ensures.within.1 in
    record {
      goes_on = goes_on_to c.args.src.now c.loop-rest.kept.items c.keep.new.kept.items place.is_first next.is_first place.at next.at place.line next.line bytes c.split_at-in-loop-rest.result.0.now c.split_at-in-loop-rest.result.1.now c.in_ok-piece.piece c.in_ok-piece.len
          some fits (sym c.in_ok-piece.ensures.value) c.split_at-in-loop-rest.ensures.front c.split_at-in-loop-rest.ensures.back c.past-next.ensures.first c.past-next.ensures.at
          (line_now place.is_first place.at place.line bytes c.split_at-in-loop-rest.result.0.now c.in_ok-piece.piece c.in_ok-piece.len next.line some (sym c.in_ok-piece.ensures.value) c.split_at-in-loop-rest.ensures.front c.past-next.ensures.line) c.in_ok-keep.ensures.ok c.loop-rest.invariant.goes_on;
      fails_on = fails_on_to c.args.src.now place.is_first next.is_first place.at next.at bytes c.split_at-in-loop-rest.result.0.now c.split_at-in-loop-rest.result.1.now c.in_ok-piece.piece c.in_ok-piece.len
          some fits (sym c.in_ok-piece.ensures.value) c.split_at-in-loop-rest.ensures.front c.split_at-in-loop-rest.ensures.back c.past-next.ensures.first c.past-next.ensures.at c.loop-rest.invariant.fails_on;
      at = omega (arith, c.split_at-in-loop-rest.ensures.back_len, c.split_at-in-loop-rest.ensures.front_len);
      line = omega (arith, c.split_at-in-loop-rest.ensures.back_len, c.split_at-in-loop-rest.ensures.front_len);
    }

pub loop-rest-preserved-then-is_blank : goal.loop-rest-preserved-then-is_blank
loop-rest-preserved-then-is_blank c =
    let place = c.loop-rest.place in
    let next = c.past_blank-place.result in
    let bytes = c.loop-rest.rest.now in
    let b = get_or bytes 0 0 in
    let rest = c.split_at.result.1.now in
    let some : 0 < length bytes = grind arith in
    let fits : 1 ≤ length bytes = omega arith in
    let found = blank_found place.is_first place.at b bytes refl (sym c.is_blank.ensures ∙ c.if-is_blank.true) in
    let word = blank_word b bytes some refl in
    record {
      goes_on = goes_on_to c.args.src.now c.loop-rest.kept.items c.loop-rest.kept.items place.is_first next.is_first place.at next.at place.line next.line bytes (b ∷ []) rest Blank 1
          some fits found word c.split_at.ensures.back c.past_blank-place.ensures.first c.past_blank-place.ensures.at c.past_blank-place.ensures.line (sym (append-nil c.loop-rest.kept.items)) c.loop-rest.invariant.goes_on;
      fails_on = fails_on_to c.args.src.now place.is_first next.is_first place.at next.at bytes (b ∷ []) rest Blank 1
          some fits found word c.split_at.ensures.back c.past_blank-place.ensures.first c.past_blank-place.ensures.at c.loop-rest.invariant.fails_on;
      at = omega (arith, c.split_at.ensures.back_len, c.past_blank-place.ensures.at);
      line = omega (arith, c.split_at.ensures.back_len, c.past_blank-place.ensures.lines);
    }

lexed : (c : goal.After-loop-rest) → Lexes c.args.src.now c.loop-rest.kept.items
lexed c = let place = c.loop-rest.place in lexes_end c.args.src.now c.loop-rest.kept.items place.is_first place.at place.line c.loop-rest.rest.now (grind arith) c.loop-rest.invariant.goes_on

pub returns-clause-found : goal.returns-clause-found
returns-clause-found c = lexed c

pub returns-clause-only : goal.returns-clause-only
returns-clause-only c = λ list l. lexes_once true 0 1 c.args.src.now c.loop-rest.kept.items list (lexed c) l

pub returns-clause-first : goal.returns-clause-first
returns-clause-first c = λ other r. lexes_or_refuses true 0 1 c.args.src.now c.loop-rest.kept.items other (lexed c) r

pub returns-clause-within : goal.returns-clause-within
returns-clause-within c = lexes_within c.args.src.now c.loop-rest.kept.items (lexed c)

pub returns-clause-texts : goal.returns-clause-texts
returns-clause-texts c = lexes_have c.args.src.now c.loop-rest.kept.items (lexed c)
