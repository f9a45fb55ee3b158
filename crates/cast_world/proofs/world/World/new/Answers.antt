use Rattle.std.proofs.Common.{arith, map}
use Rattle.cast_world.proofs.Beginning.{begun_sound, begun_stands, nodes_next, rows_next}
use Rattle.cast_world.proofs.world.World.new.Goals as goal

pub invariant_of-result : goal.invariant_of-result
invariant_of-result c =
    begun_sound c.args.config c.loop-id.nodes.items (map (λ row. row.items) c.loop-id.marks.items) c.loop-id.id (omega (arith, c.nodes-count.ensures, c.loop-id-test.false, c.loop-id.auto.id-end)) c.loop-id.invariant.nodes c.loop-id.invariant.rows

pub returns : goal.returns
returns c =
    begun_stands c.args.config c.loop-id.nodes.items (map (λ row. row.items) c.loop-id.marks.items) c.loop-id.id (omega (arith, c.nodes-count.ensures, c.loop-id-test.false, c.loop-id.auto.id-end)) c.loop-id.invariant.nodes c.loop-id.invariant.rows

pub loop-id-preserved : goal.loop-id-preserved
loop-id-preserved c = record {
  nodes = nodes_next c.args.config c.loop-id.nodes.items c.push.new.self.items c.loop-id.id c.in-Ok.node c.in_ok-push-in-Ok.ensures.items c.loop-id.invariant.nodes c.in-Ok.ensures.ok;
  rows = rows_next (λ row. row.items) c.loop-id.marks.items c.push-in-loop-id.new.self.items c.loop-id.id c.new-in-loop-id.result c.in_ok-push.ensures.items c.loop-id.invariant.rows c.new-in-loop-id.ensures.items;
}
