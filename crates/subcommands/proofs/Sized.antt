-- Bytes behind their size: what is read is what stands there.
use Rattle.std.proofs.Common.{get_or, ◌≡◌, ℕ, ◌^◌, ◌<◌, ◌≤◌, List, [], ◌∷◌, ◌++◌, length, take, drop, sym, ap, ◌∙◌, arith}
use Rattle.std.specs.Int.{w32}
use Rattle.std.proofs.lemmas.List.{take-append-drop, length-take}
use Rattle.batch_codec.specs.Grammar.{fields}
use Rattle.batch_codec.specs.Fields.{unsigned_at}
use Rattle.batch_codec.proofs.Fixed.{wide32, fields_back}
use Rattle.subcommands.specs.Merging.{StartsSized}

pub starts_sized : (input bytes rest : List ℕ) (n : ℕ) → ((i : ℕ) → get_or input i 0 < 256) → 4 ≤ length input
    → n ≡ unsigned_at w32 0 input → n < 2 ^ 31 → n ≤ length (drop 4 input)
    → bytes ≡ take n (drop 4 input) → rest ≡ drop n (drop 4 input) → StartsSized input bytes rest
starts_sized input bytes rest n fits long size small within bytes_are rest_is =
    let len : length bytes ≡ n = ap length bytes_are ∙ omega (arith, length-take n (drop 4 input)) in
    let back : input ≡ fields ((w32, unsigned_at w32 0 input) ∷ []) ++ drop 4 input = fields_back (w32 ∷ []) 0 input (wide32, tt) fits long in
    let number : unsigned_at w32 0 input ≡ length bytes = sym (len ∙ size) in
    let behind : drop 4 input ≡ bytes ++ rest = sym (take-append-drop n (drop 4 input)) ∙ (λ i. sym bytes_are i ++ sym rest_is i) in
    record {
      is_size = omega (arith, len);
      parts = back ∙ (λ i. fields ((w32, number i) ∷ []) ++ behind i);
    }
