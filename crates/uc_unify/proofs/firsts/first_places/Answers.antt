use Rattle.std.proofs.Common.{◌∙◌, ◌+◌, ap, length}
use Rattle.std.proofs.lemmas.List.{length-append}
use Rattle.uc_unify.proofs.Noting.{firsts_more}
use Rattle.uc_unify.proofs.firsts.first_places.Goals as goal

pub loop-place-preserved : goal.loop-place-preserved
loop-place-preserved c = record {
  long = ap length c.in_ok-push.ensures.items ∙ length-append c.loop-place.firsts.items _ ∙ ap (λ n. n + 1) c.loop-place.invariant.long;
  noted = c.first_place-first.ensures.noted;
  first = firsts_more c.args.nodes.now c.loop-place.firsts.items c.push.new.self.items c.loop-place.place c.first_place-first.result c.loop-place.invariant.long c.loop-place.invariant.first c.first_place-first.ensures.first c.in_ok-push.ensures.items;
}
