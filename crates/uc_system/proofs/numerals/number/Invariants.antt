use Rattle.std.proofs.Common.{◌≡◌, ◌-◌, ◌^◌, min, true, take}
use Rattle.std.specs.List.{list_all}
use Rattle.uc_clause.specs.Bytes.{is_digit}
use Rattle.uc_system.specs.Numerals.{value_of}
use Rattle.uc_system.proofs.numerals.number.Given as goal

abbrev pub invariant-loop-digit : goal.invariant-loop-digit
invariant-loop-digit l = record {
  digits : list_all is_digit (take l.digit-index l.digits) ≡ true;
  value : l.value ≡ min (value_of (take l.digit-index l.digits)) (2 ^ 32 - 1);
}
