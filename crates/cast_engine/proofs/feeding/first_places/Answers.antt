use Rattle.cast_engine.proofs.Staying.{places_more}
use Rattle.cast_engine.proofs.feeding.first_places.Goals as goal

pub loop-client-preserved : goal.loop-client-preserved
loop-client-preserved c = places_more c.loop-client._client c.loop-client.places.items _ c.loop-client.invariant c.in_ok-push.ensures.items
