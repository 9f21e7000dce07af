use Rattle.std.proofs.Common.{ap, ◌∙◌, sym, [], ◌∷◌, ◌++◌}
use Rattle.word_stream.proofs.Spelled.{spells_either, small-one, exchange-one}
use Rattle.word_stream.proofs.spelling.words_of.Goals as goal

pub pack-requires : goal.pack-requires
pack-requires c = small-one _ _ _ (spells_either _ _ _ c.in-Put.is) c.requires

pub returns : goal.returns
returns c =
    let s = spells_either _ _ _ c.in-Put.is in
    c.push.ensures ∙ ap (λ words. words ++ c.pack.result ∷ []) c.clear.ensures ∙ ap (λ w. w ∷ []) c.pack.ensures ∙ sym (exchange-one _ c.args.response.now _ _ s)
