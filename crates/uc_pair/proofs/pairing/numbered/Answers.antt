use Rattle.uc_term.specs.Variables.{renumbered_by}
use Rattle.uc_pair.specs.Pairs.{names_of}
use Rattle.uc_pair.proofs.Forming.{left_numbered, right_numbered, top_numbered, two_steps}
use Rattle.uc_pair.proofs.pairing.numbered.Goals as goal

pub returns : goal.returns
returns c =
    let l = c.args.left.now in
    let r = c.args.right.now in
    let top = c.args.peak.now in
    record {
      left_is = left_numbered l r top c.new-names.result.items c.number.new.names.items c.number-2.new.names.items c.number-3.new.names.items c.new-names.ensures.items c.in_ok-left.ensures.names c.in_ok-right.ensures.names c.in_ok-peak.ensures.names c.in_ok-left.left c.in_ok-left.ensures.numbered;
      right_is = right_numbered l r top c.new-names.result.items c.number.new.names.items c.number-2.new.names.items c.number-3.new.names.items c.new-names.ensures.items c.in_ok-left.ensures.names c.in_ok-right.ensures.names c.in_ok-peak.ensures.names c.in_ok-right.right c.in_ok-right.ensures.numbered;
      chain_is = two_steps c.args.overlap.now c.args.there.0 c.in_ok-left.left c.in_ok-right.right c.in_ok-copy-2.field-0 c.in_ok-peak.peak (renumbered_by (names_of l r top) top) c.in_ok-copy.field-0 c.is_right.result c.is_left.result c.new-steps.result.items c.push.new.self.items c.push-2.new.self.items c.from_vec.result c.new-steps.ensures.items c.in_ok-push.ensures.items c.in_ok-push-2.ensures.items c.from_vec.ensures c.is_right.ensures c.is_left.ensures c.in_ok-copy.ensures
          (top_numbered l r top c.new-names.result.items c.number.new.names.items c.number-2.new.names.items c.number-3.new.names.items c.new-names.ensures.items c.in_ok-left.ensures.names c.in_ok-right.ensures.names c.in_ok-peak.ensures.names c.in_ok-peak.peak c.in_ok-peak.ensures.numbered) c.in_ok-copy-2.ensures;
    }
