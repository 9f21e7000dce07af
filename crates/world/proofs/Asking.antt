-- What each request gives.
use Rattle.std.proofs.Common.{◌≡◌, ℕ, ◌%◌, List, [], ◌∷◌, length, Option, Result, Ok, Err, OnErr, ap, sym, subst, arith}
use Rattle.std.specs.Prelude.{IsTrue}
use Rattle.srmt_base.specs.declared.event.Event.{Event}
use Rattle.srmt_base.specs.declared.event.Event.TheVariants.{Byte, Exit as ExitEvent}
use Rattle.srmt_base.specs.declared.word.Site.{Site}
use Rattle.srmt_outside.specs.Told.{Appends}
use Rattle.srmt_outside.proofs.Told.{Appends-nothing}
use Rattle.word_stream.specs.declared.request.Request.{Request}
use Rattle.word_stream.specs.declared.request.Request.TheVariants.{Put, Exit}
use Rattle.word_stream.specs.declared.request.Response.TheVariants.{Done}
use Rattle.world.specs.World.{WorldState, Lives, Over, is_live, ask}
use Rattle.world.specs.Written.{AppendsSome}

pub ask-put : (w : WorldState) (q : Request) (site : Site) (value : ℕ) → IsTrue (is_live w) → q ≡ Put site value → ask w q ≡ record { world = w; response = Done; events = Byte (value % 256) ∷ [] }
unfolding ask
ask-put (Lives inside) q site value live is = ap (ask (Lives inside)) is
ask-put Over q site value live is = absurd (cc)

pub ask-exit : (w : WorldState) (q : Request) (site : Site) (value : ℕ) → IsTrue (is_live w) → q ≡ Exit site value → ask w q ≡ record { world = Over; response = Done; events = ExitEvent (value % 256) ∷ [] }
unfolding ask
ask-exit (Lives inside) q site value live is = ap (ask (Lives inside)) is
ask-exit Over q site value live is = absurd (cc)

-- of one event that was not written nothing was
pub before_one : {T E : Type 0} (result : Result T E) (before after : Option (List Event)) (events : List Event) (one : Event) → events ≡ one ∷ [] → after ≡ before → OnErr result (AppendsSome before after events)
before_one (Ok v) before after events one is same = tt
before_one (Err e) before after events one is same = record {
  written = 0;
  fewer = omega (arith, ap length is);
  appends = subst (λ b. Appends before b []) (sym same) (Appends-nothing before);
}
