-- What the tests of the two ends of a pair answer.
use Rattle.std.specs.Prelude.{List, Some, None}
use Rattle.uc_term.specs.Tree.{Tree}
use Rattle.uc_order.specs.Laws.{Meaning}
use Rattle.uc_fact.specs.declared.ac_facts.AcFacts.{AcFacts}
use Rattle.uc_fact.specs.declared.joinable.Joinable.{Joinable}
use Rattle.uc_fact.specs.declared.joinable.Joinable.TheVariants.{Joined}
use Rattle.uc_fact.specs.declared.joinable.Reason.TheVariants.{Ac}
use Rattle.uc_fact.specs.Live.{Live}
use Rattle.uc_ground.specs.Joining.{IsAnswer}
use Rattle.uc_ac.specs.Joining.{IsAcAnswer}

-- They are equal up to brackets and order at associative and commutative symbols, which these facts make so; or, where they
-- aren't, this is what the test of ground joinability answers.
pub data IsEndsAnswer (m : Meaning) (live : List Live) (s t : Tree) : Joinable → Type 0 where
  equal_by_facts : {list : List AcFacts} → IsAcAnswer live s t (Some list) → IsEndsAnswer m live s t (Joined (Ac list))
  not_equal_so : {answer : Joinable} → IsAcAnswer live s t None → IsAnswer m live s t answer → IsEndsAnswer m live s t answer
