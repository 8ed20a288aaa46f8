-- What a pass counts, over one call and over several.
use Rattle.std.proofs.Common.{◌≡◌, ℕ, ◌+◌, ◌-◌, ◌^◌, ◌<◌, min, refl, sym, ap, ◌∙◌, subst, arith}
use Rattle.uc_machine.specs.State.{Opening, State}
use Rattle.uc_machine.specs.Events.{commits_by}
use Rattle.uc_machine.specs.Draws.{Reply, Draws}
use Rattle.uc_book.specs.Openings.{PassView}
use Rattle.uc_search.specs.Working.{CountsCommits, Counts}
use Rattle.uc_search.proofs.Counting.{draw_commits}

none_made : (a : ℕ) → a ≡ a + 0
none_made a = omega arith

pub none_counted : (c : ℕ) → c < 2 ^ 64 → c ≡ min (c + 0) (2 ^ 64 - 1)
none_counted c l = omega (arith, l)

both_made : (a b c k n : ℕ) → b ≡ a + k → c ≡ b + n → c ≡ a + (k + n)
both_made a b c k n e f = omega (arith, e, f)

pub both_counted : (c d e k n : ℕ) → d ≡ min (c + k) (2 ^ 64 - 1) → e ≡ min (d + n) (2 ^ 64 - 1) → e ≡ min (c + (k + n)) (2 ^ 64 - 1)
both_counted c d e k n x y = omega (arith, x, y)

all_counted : (c d a b k : ℕ) → c ≡ a → d ≡ min (c + k) (2 ^ 64 - 1) → b ≡ a + k → b < 2 ^ 64 → d ≡ b
all_counted c d a b k e x y l = omega (arith, e, x, y, l)

-- nothing happened
pub counts_nothing : (p : PassView) (s : State) → p.commits < 2 ^ 64 → ((v : ℕ) → commits_by v s.history < 2 ^ 64) → Counts p p s s
counts_nothing p s l few = record { more = 0; made = none_made (commits_by p.worker s.history); counted = none_counted p.commits l; few = few p.worker }

-- nothing was committed before or behind it
pub counts_as : (p q a b : PassView) (s u x y : State) → a ≡ p → b ≡ q → ((v : ℕ) → commits_by v x.history ≡ commits_by v s.history) → ((v : ℕ) → commits_by v y.history ≡ commits_by v u.history) → Counts a q x u → Counts p b s y
counts_as p q a b s u x y e f before after c =
    let d : Counts p q x u = subst (λ (z : PassView). Counts z q x u) e c in
    record {
      more = d.more;
      made = after p.worker ∙ d.made ∙ ap (λ n. n + d.more) (before p.worker);
      counted = ap (λ (z : PassView). z.commits) f ∙ d.counted;
      few = subst (λ n. n < 2 ^ 64) (sym (after p.worker)) d.few;
    }

-- one after the other
pub counts_on : (p q r : PassView) (s t u : State) → q.worker ≡ p.worker → Counts p q s t → Counts q r t u → Counts p r s u
counts_on p q r s t u e a b = record {
  more = a.more + b.more;
  made = both_made (commits_by p.worker s.history) (commits_by p.worker t.history) (commits_by p.worker u.history) a.more b.more a.made (subst (λ v. commits_by v u.history ≡ commits_by v t.history + b.more) e b.made);
  counted = both_counted p.commits q.commits r.commits a.more b.more a.counted b.counted;
  few = subst (λ v. commits_by v u.history < 2 ^ 64) e b.few;
}

-- a draw
pub counts_drawn : (o : Opening) (w : ℕ) (s : State) (r : Reply) (u : State) (p q : PassView) → q ≡ p → p.commits < 2 ^ 64 → ((v : ℕ) → commits_by v s.history < 2 ^ 64) → Draws o w s r u → Counts p q s u
counts_drawn o w s r u p q e l few d = counts_as p p p q s s s u refl e (λ v. refl) (draw_commits o w s r u d) (counts_nothing p s l few)

-- a pass that had counted all commits of its worker still has
pub counts_all : (p q : PassView) (s u : State) → q.worker ≡ p.worker → Counts p q s u → CountsCommits p s → CountsCommits q u
counts_all p q s u e c h =
    subst (λ v. q.commits ≡ commits_by v u.history) (sym e)
    (all_counted p.commits q.commits (commits_by p.worker s.history) (commits_by p.worker u.history) c.more h c.counted c.made c.few)
