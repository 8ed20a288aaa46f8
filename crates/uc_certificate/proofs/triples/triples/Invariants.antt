use Rattle.std.proofs.Common.{◌+◌, ◌-◌, length}
use Rattle.uc_tstp.proofs.Members.{Ahead}
use Rattle.uc_certificate.specs.JoinLines.{triple}
use Rattle.uc_certificate.proofs.triples.triples.Given as goal

abbrev pub invariant-members : goal.invariant-members
invariant-members l = Ahead l.bytes l.tokens (triple l.bytes l.tokens) l.from l.list l.more l.at

abbrev pub decreases-members : goal.decreases-members
decreases-members l = length l.tokens + 1 - l.at
