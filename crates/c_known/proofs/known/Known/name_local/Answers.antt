use Rattle.std.proofs.Common.{sym, subst, refl}
use Rattle.std.specs.Option.{option_map, option_copied}
use Rattle.typing_rules.specs.Known as known
use Rattle.typing_rules.specs.SourceViews.{named_view}
use Rattle.typing_rules.specs.OrderedParts.{declares, named_local}
use Rattle.c_known.specs.Views.{line_in as told_line}
use Rattle.c_known.specs.Gives.{Gives, IsDone}
use Rattle.c_known.proofs.known.Known.name_local.Goals as goal

pub returns-in-Some : goal.returns-in-Some
returns-in-Some c =
    subst (λ o. Gives IsDone c.args.self.now c.declare.new.self c.declare.result (named_local (option_map (named_view (told_line c.args.file)) (option_copied o)) c.args.number))
    (sym c.in-Some.is)
    (subst (Gives IsDone c.args.self.now c.declare.new.self c.declare.result)
    (λ i. declares (record { line = c.line_in.ensures i; bytes = c.as_slice.ensures i }) (known.local c.args.number))
    (c.declare.ensures (known.local c.args.number) (record { always = λ later more. refl })))
