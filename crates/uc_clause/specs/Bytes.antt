-- Tests on bytes and on texts: what the kinds of tokens, white space and comments are made of.
use Rattle.std.specs.Prelude.{ℕ, ◌==◌, ◌&&◌, ◌||◌, ◌+◌, not, Bool, false, List, [], ◌∷◌, length, nat_le, if◌then◌else◌}
use Rattle.std.specs.List.{list_all, prefix_len}

abbrev pub between : ℕ → ℕ → ℕ → Bool
between low high b = nat_le low b && nat_le b high

-- `a` to `z`
abbrev pub is_lower : ℕ → Bool
is_lower b = between 97 122 b

-- `A` to `Z`
abbrev pub is_upper : ℕ → Bool
is_upper b = between 65 90 b

-- `0` to `9`
abbrev pub is_digit : ℕ → Bool
is_digit b = between 48 57 b

-- a letter, a digit or `_`
abbrev pub is_word : ℕ → Bool
is_word b = is_lower b || (is_upper b || (is_digit b || b == 95))

-- `+` or `-`
abbrev pub is_sign : ℕ → Bool
is_sign b = b == 43 || b == 45

-- tab, line feed, vertical tab, form feed, carriage return or space
abbrev pub is_white : ℕ → Bool
is_white b = between 9 13 b || b == 32

-- a byte that doesn't end its line
abbrev pub in_line : ℕ → Bool
in_line b = not (b == 10)

-- a visible byte that is a token of its own where no longer token begins with it: none of the letters, the digits, `"`,
-- `%` and `'`
abbrev pub is_mark : ℕ → Bool
is_mark b = between 33 126 b && not (is_lower b || (is_upper b || (is_digit b || (b == 34 || (b == 37 || b == 39)))))

-- a byte that stands for itself between these quotes: 32 to 126, other than the quote and `\`
abbrev pub is_plain : ℕ → ℕ → Bool
is_plain quote b = between 32 126 b && (not (b == quote) && not (b == 92))

-- pieces, and the quote that closes them; a piece is a plain byte, or `\` with `\` or the quote behind it
abbrev pub closes : ℕ → List ℕ → Bool
closes quote [] = false
closes quote (b ∷ []) = b == quote
closes quote (b ∷ c ∷ bs) = if b == 92 then (c == 92 || c == quote) && closes quote bs else is_plain quote b && closes quote (c ∷ bs)

-- one or more digits
abbrev pub is_digits : List ℕ → Bool
is_digits [] = false
is_digits (b ∷ bs) = is_digit b && list_all is_digit bs

-- a lower-case letter, then letters, digits and `_`
abbrev pub is_name : List ℕ → Bool
is_name [] = false
is_name (b ∷ bs) = is_lower b && list_all is_word bs

-- how many bytes of such a name stand in front
abbrev pub name_len : List ℕ → ℕ
name_len [] = 0
name_len (b ∷ bs) = if is_lower b then 1 + prefix_len is_word bs else 0

-- the text begins with `/*`
abbrev pub opens_block : List ℕ → Bool
opens_block (b ∷ c ∷ bs) = (b == 47) && (c == 42)
opens_block text = false

-- the first `*/` stands at the end
abbrev pub ends_block : List ℕ → Bool
ends_block [] = false
ends_block (b ∷ []) = false
ends_block (b ∷ c ∷ bs) = if (b == 42) && (c == 47) then length bs == 0 else ends_block (c ∷ bs)

-- a byte of white space
abbrev pub is_blank : List ℕ → Bool
is_blank (b ∷ []) = is_white b
is_blank text = false

-- `%` and what follows it in its line
abbrev pub is_line_comment : List ℕ → Bool
is_line_comment [] = false
is_line_comment (b ∷ bs) = (b == 37) && list_all in_line bs

-- `/*` and what follows it up to the next `*/`
abbrev pub is_block_comment : List ℕ → Bool
is_block_comment (b ∷ c ∷ bs) = ((b == 47) && (c == 42)) && ends_block bs
is_block_comment text = false

-- white space or a comment
abbrev pub is_gap : List ℕ → Bool
is_gap text = is_blank text || (is_line_comment text || is_block_comment text)
