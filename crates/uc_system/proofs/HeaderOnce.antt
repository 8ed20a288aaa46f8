-- The first two lines are read in one way.
use Rattle.std.proofs.Common.{sym, ◌∙◌}
use Rattle.uc_system.specs.Header.{version_line, kind_of, kind_fault, header_lines}
use Rattle.uc_system.specs.Lines.{here, unless, pick}
use Rattle.uc_system.proofs.LinesOnce.{Once, both_once, gives_once, here_once, unless_once, pick_once}

version_once : Once version_line
version_once n text o p x y = x ∙ sym y

pub header_once : Once header_lines
header_once = both_once here _ here_once (λ first n m text rest x. both_once version_line _ version_once (λ light n m text rest x. both_once (pick kind_of) _ (pick_once kind_of) (λ kind n m text rest x. both_once (unless (kind_fault first light kind)) _ (unless_once (kind_fault first light kind)) (λ u n m text rest x. gives_once _))))
