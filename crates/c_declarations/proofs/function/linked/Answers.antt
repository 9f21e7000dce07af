use Rattle.std.proofs.Common.{Ok, ap}
use Rattle.typing_rules.specs.Known as known
use Rattle.typing_rules.specs.SpecifierRules.{no_word}
use Rattle.typing_rules.specs.Checking.{pure}
use Rattle.typing_rules.specs.OrderedDeclarations.{links}
use Rattle.c_known.specs.declared.local.Meaning.TheVariants as meaning
use Rattle.c_known.specs.Standing.{MeansMeaning, MeansLinked}
use Rattle.c_known.proofs.Binding.{bind, pure-gives}
use Rattle.c_declarations.proofs.function.linked.Goals as goal

pub returns-in-Ok : goal.returns-in-Ok
returns-in-Ok c t h =
    let mid = c.links.new.known in
    let m = meaning.Linked c.in-Ok.found.entity c.in-Ok.found.ty in
    bind MeansLinked MeansMeaning c.args.known.now mid mid c.in-Ok.found (Ok m) (links (record { line = c.args.line; bytes = c.args.name.now }) no_word t) (λ l. pure (known.linked l.entity l.type))
    (c.in-Ok.ensures t h)
    (λ l more means. pure-gives MeansMeaning mid m (known.linked l.entity l.type) (record { always = λ later e. ap (λ v. known.linked v.entity v.type) (means.always later e) }))
