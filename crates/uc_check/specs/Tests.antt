-- Tests in their order: the first that fails has its outcome, and where it holds the tests behind it decide.

pub data Test {O : Type 0} (P : Type 0) (failed : O) (behind : O → Type 0) : O → Type 0 where
  passes : {outcome : O} → P → behind outcome → Test P failed behind outcome
  fails : (P → ⊥) → Test P failed behind failed
