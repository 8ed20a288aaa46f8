use Rattle.std.proofs.Common.{refl, inl, inr}
use Rattle.uc_problem.specs.Holds.{is_too_many}
use Rattle.uc_problem.proofs.Occurring.{clash_at, too_many_at, no_other}
use Rattle.uc_problem.proofs.Sides.{has_place, has_symbol}
use Rattle.uc_problem.proofs.Problems.{has_clash}
use Rattle.uc_problem.proofs.locating.refusal.Goals as goal

pub spot-requires : goal.spot-requires
spot-requires c = has_place c.args.symbols.now c.args.clauses.now c.in-ArityClash.term c.in-ArityClash.pos c.requires.sound (clash_at c.args.symbols.now c.args.clauses.now c.in-ArityClash.term c.in-ArityClash.first c.in-ArityClash.second c.in-ArityClash.pos (rw c.in-ArityClash.is at c.requires.fault))

pub symbol_at-requires : goal.symbol_at-requires
symbol_at-requires c = clash_at c.args.symbols.now c.args.clauses.now c.in-ArityClash.term c.in-ArityClash.first c.in-ArityClash.second c.in-ArityClash.pos (rw c.in-ArityClash.is at c.requires.fault)

pub name-name-requires : goal.name-name-requires
name-name-requires c = has_symbol c.args.symbols.now c.args.clauses.now c.in-ArityClash.term c.in-ArityClash.pos c.symbol_at.result c.requires.sound c.symbol_at.ensures

pub spot-requires-in-TooMany : goal.spot-requires-in-TooMany
spot-requires-in-TooMany c = has_place c.args.symbols.now c.args.clauses.now c.in-TooMany.term c.in-TooMany.pos c.requires.sound (too_many_at c.args.symbols.now c.args.clauses.now c.in-TooMany.term c.in-TooMany.pos (rw c.in-TooMany.is at c.requires.fault))

pub returns-in_ok-from_bytes-in-ArityClash : goal.returns-in_ok-from_bytes-in-ArityClash
returns-in_ok-from_bytes-in-ArityClash c =
    has_clash c.args.symbols.now c.args.clauses.now c.in-ArityClash.term c.in-ArityClash.first c.in-ArityClash.second c.in-ArityClash.pos c.symbol_at.result c.in_ok-file-in-ArityClash.file c.in_ok-from_bytes-in-ArityClash.field-0 c.name-name.result.now c.in_ok-file-in-ArityClash.place
    (rw c.in-ArityClash.is at c.requires.fault) c.symbol_at.ensures c.in_ok-file-in-ArityClash.ensures c.in_ok-from_bytes-in-ArityClash.ensures c.name-name.ensures

pub returns-in_ok-file-in-TooMany : goal.returns-in_ok-file-in-TooMany
returns-in_ok-file-in-TooMany c = is_too_many (rw c.in-TooMany.is at c.requires.fault) c.in_ok-file-in-TooMany.ensures

pub unreachable-requires : goal.unreachable-requires
unreachable-requires c = elim c.in-TooLarge.is [
  | inl e ↦ (no_other c.args.symbols.now (rw e at c.requires.fault)).0 refl
  | inr e ↦ (no_other c.args.symbols.now (rw e at c.requires.fault)).1 refl
]
