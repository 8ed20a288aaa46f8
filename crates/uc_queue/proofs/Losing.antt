-- Laws of the two orders of entries, and of which of two leaves loses.
use Rattle.std.proofs.Common.{◌≡◌, true, false, Option, Some, None, refl, arith}
use Rattle.std.proofs.lemmas.Bool.Decides.{nat_tests}
use Rattle.uc_queue.specs.declared.entry.Entry.{Entry}
use Rattle.uc_queue.specs.declared.entry.Key.{Key}
use Rattle.uc_queue.specs.declared.entry.Key.TheVariants.{Number, Weight}
use Rattle.uc_queue.specs.Trees.{before, loses}

pub never_itself : (key : Key) (a : Entry) → before key a a ≡ false
never_itself Number a = grind (arith, nat_tests)
never_itself Weight a = grind (arith, nat_tests)

pub not_both : (key : Key) (a b : Entry) → before key a b ≡ true → before key b a ≡ false
not_both Number a b h = grind (arith, nat_tests)
not_both Weight a b h = grind (arith, nat_tests)

-- what isn't before b, which isn't before a, isn't before a
pub not_before : (key : Key) (a b c : Entry) → before key b a ≡ false → before key c b ≡ false → before key c a ≡ false
not_before Number a b c h k = grind (arith, nat_tests)
not_before Weight a b c h k = grind (arith, nat_tests)

-- neither is before the other: they have one number
pub one_number : (key : Key) (a b : Entry) → before key a b ≡ false → before key b a ≡ false → a.number ≡ b.number
one_number Number a b h k = grind (arith, nat_tests)
one_number Weight a b h k = grind (arith, nat_tests)

pub draws_level : (key : Key) (a : Option Entry) → loses key a a ≡ false
draws_level key None = refl
draws_level key (Some a) = never_itself key a

pub wins_back : (key : Key) (a b : Option Entry) → loses key a b ≡ true → loses key b a ≡ false
wins_back key a None h = grind arith
wins_back key None (Some b) h = refl
wins_back key (Some a) (Some b) h = not_both key b a h

pub loses_to_none : (key : Key) (a b c : Option Entry) → loses key a b ≡ false → loses key b c ≡ false → loses key a c ≡ false
loses_to_none key a b None h k = refl
loses_to_none key None None (Some c) h k = k
loses_to_none key (Some a) None (Some c) h k = grind arith
loses_to_none key None (Some b) (Some c) h k = h
loses_to_none key (Some a) (Some b) (Some c) h k = not_before key a b c h k
