-- No byte of the printed form is a line feed.
use Rattle.std.proofs.Common.{◌≡◌, ◌≢◌, ℕ, zero, suc, ◌/◌, ◌%◌, Bool, true, false, List, [], ◌∷◌, ◌++◌, refl, cond, arith}
use Rattle.std.specs.Prelude.{All}
use Rattle.std.proofs.lemmas.Bool.Decides.{nat_tests}
use Rattle.std.proofs.lemmas.List.Elements.{All-append}
use Rattle.table_lines.specs.Lines.{is_unescaped, hex_digit, printed, printed_byte, line, EndsOnce}

abbrev pub NoFeed : List ℕ → Type 0
NoFeed bytes = All (λ byte. byte ≢ 10) bytes

no_feed_none : NoFeed []
no_feed_none k d h = absurd (omega arith)

no_feed_more : (byte : ℕ) (bytes : List ℕ) → byte ≢ 10 → NoFeed bytes → NoFeed (byte ∷ bytes)
no_feed_more byte bytes here rest zero d h = here
no_feed_more byte bytes here rest (suc k) d h = rest k d (omega arith)

digit_no_feed : (digit : ℕ) → hex_digit digit ≢ 10
digit_no_feed digit = grind (arith, nat_tests)

unescaped_no_feed : (byte : ℕ) → is_unescaped byte ≡ true → byte ≢ 10
unescaped_no_feed byte unescaped = λ feed. let bad = rw feed at unescaped in cc

printed_byte_no_feed : (b : Bool) (byte : ℕ) → is_unescaped byte ≡ b → NoFeed (cond b (byte ∷ []) (0x25 ∷ hex_digit (byte / 16) ∷ hex_digit (byte % 16) ∷ []))
printed_byte_no_feed true byte unescaped = no_feed_more byte [] (unescaped_no_feed byte unescaped) no_feed_none
printed_byte_no_feed false byte escaped =
    let low = hex_digit (byte % 16) in
    let high = hex_digit (byte / 16) in
    let one = no_feed_more low [] (digit_no_feed (byte % 16)) no_feed_none in
    let two = no_feed_more high (low ∷ []) (digit_no_feed (byte / 16)) one in
    no_feed_more 0x25 (high ∷ low ∷ []) (omega arith) two

printed_no_feed : (bytes : List ℕ) → NoFeed (printed bytes)
printed_no_feed [] = no_feed_none
printed_no_feed (byte ∷ bytes) =
    All-append (λ b. b ≢ 10) (printed_byte byte) (printed bytes)
    (printed_byte_no_feed (is_unescaped byte) byte refl)
    (printed_no_feed bytes)

pub line_ends_once : (key value : List ℕ) → EndsOnce (line (key, value))
line_ends_once key value =
    let equals : 0x3d ≢ 10 = omega arith in
    (printed key ++ 0x3d ∷ printed value, refl, All-append (λ b. b ≢ 10) (printed key) (0x3d ∷ printed value) (printed_no_feed key) (no_feed_more 0x3d (printed value) equals (printed_no_feed value)))
