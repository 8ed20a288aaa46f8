-- A step ends behind where it begins.
use Rattle.std.proofs.Common.{◌≡◌, ℕ, ◌+◌, ◌<◌, ◌≤◌, List, arith}
use Rattle.uc_clause.specs.declared.token.Token.{Token}
use Rattle.uc_clause.specs.Terminals.{terminal_at, bytes_at}
use Rattle.uc_clause.specs.Rules.{Outcome, read, stop, Rule, mapped, goes_on, is_first, is_second}
use Rattle.uc_clause.proofs.Progress.{NotBehind, term_ahead}
use Rattle.uc_tstp.specs.Parse as parse
use Rattle.uc_tstp.specs.Lines as lines
use Rattle.uc_tstp.specs.Lines.{Members, stops_in_member, is_last_member, is_member, stops_behind_member, lower_by, number_by, way_by}
use Rattle.uc_tstp.proofs.Members.{picked_ahead}

over : {V W : Type 0} (f : V → W) (from at : ℕ) (o : Outcome V) → from ≤ at → NotBehind at o → NotBehind from (mapped f o)
over f from at (read v end) h a = omega arith
over f from at (stop why k) h a = tt

module _ (bytes : List ℕ) (tokens : List Token) where
  module _ {V : Type 0} (member : Rule V) (ends : (at end : ℕ) (v : V) → member at (read v end) → at ≤ end) where
    members_end : {at : ℕ} {o : Outcome (List V)} → Members bytes tokens member at o → NotBehind at o
    members_end (stops_in_member s) = tt
    members_end (is_last_member {at = at} {end = end} {v = v} m c) = let h = ends at end v m in omega arith
    members_end (is_member {at = at} {end = end} {v = v} {outcome = o} m c all) = let h = ends at end v m in over _ at (end + 1) o (omega arith) (members_end all)
    members_end (stops_behind_member m n c) = tt

    list_ends : (at end : ℕ) (vs : List V) → lines.list bytes tokens member at (read vs end) → at ≤ end
    list_ends at end vs (goes_on {middle = m} opened (is_first e (goes_on {middle = k} closed g))) = let same : end ≡ k = cc in omega (arith, opened.1, closed.1)
    list_ends at end vs (goes_on {middle = m} opened (is_second n all)) = let h : m ≤ end = members_end all in omega (arith, opened.1)

  number_ends : (at end : ℕ) (v : ℕ) → lines.number bytes tokens at (read v end) → at ≤ end
  number_ends at end v e = omega (arith, picked_ahead (number_by (terminal_at bytes tokens at) (bytes_at bytes tokens at)) at end v e)

  head_ends : (at end : ℕ) (h : parse.StepHead) → lines.step_head bytes tokens at (read h end) → at ≤ end
  head_ends at end h (goes_on {middle = a} w (goes_on {middle = b} o (goes_on {v = by} {middle = d} l (goes_on {middle = e} c (goes_on {v = way} {middle = f} y (goes_on {middle = g} c2 (goes_on {v = path} {middle = i} p (goes_on {middle = j} c3 z)))))))) =
      let same : end ≡ j = cc in
      omega (arith, w.1, o.1, picked_ahead (lower_by (terminal_at bytes tokens b) b) b d by l, c.1, picked_ahead (way_by (terminal_at bytes tokens e) (bytes_at bytes tokens e)) e f way y, c2.1, list_ends (lines.number bytes tokens) number_ends g i path p, c3.1)

  pub step_ends : (at end : ℕ) (s : parse.Step) → lines.step bytes tokens at (read s end) → at ≤ end
  step_ends at end s (goes_on {v = head} {middle = m} h (goes_on {v = p} {middle = n} t (goes_on {middle = k} c g))) =
      let same : end ≡ k = cc in
      let term : m < n = term_ahead bytes tokens m (read p n) t in
      omega (arith, head_ends at m head h, c.1)
