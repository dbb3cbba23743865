-- The parts of a key or a value, one after the other, are the encoding of its fields.
use Rattle.std.proofs.Common.{◌≡◌, ℕ, List, [], ◌++◌, sym, ap, ◌∙◌, append-nil, append_assoc}
use Rattle.frame_fields.specs.Fields.{size16, size32, size64, be, field, encoded}
use Rattle.frame_fields.specs.Types.{string, nullable_string}
use Rattle.group_offsets.specs.declared.layout.TheConstants.{KEY_VERSION, VALUE_VERSION}
use Rattle.group_offsets.specs.Keys.{GroupKeyValue, group_key_bytes}
use Rattle.group_offsets.specs.CommittedValues.{CommittedValue, committed_bytes}

in_a_row : (a b c d : List ℕ) → ((a ++ b) ++ c) ++ d ≡ a ++ (b ++ (c ++ (d ++ [])))
in_a_row a b c d = append_assoc (a ++ b) c d ∙ append_assoc a b (c ++ d) ∙ ap (λ l. a ++ (b ++ (c ++ l))) (sym (append-nil d))

pub key_parts : (k : GroupKeyValue) (none first second third all version partition : List ℕ) → none ≡ [] → version ≡ be size16 KEY_VERSION → partition ≡ be size32 k.partition
    → first ≡ none ++ version → second ≡ first ++ field string k.group → third ≡ second ++ field string k.topic → all ≡ third ++ partition → all ≡ group_key_bytes k
unfolding encoded
key_parts k none first second third all version partition empty v p a b c d =
    d ∙ (λ i. (c ∙ (λ j. (b ∙ (λ m. (a ∙ (λ n. empty n ++ v n)) m ++ field string k.group)) j ++ field string k.topic)) i ++ p i)
    ∙ in_a_row (be size16 KEY_VERSION) (field string k.group) (field string k.topic) (be size32 k.partition)

pub value_parts : (x : CommittedValue) (none first second all version offset : List ℕ) → none ≡ [] → version ≡ be size16 VALUE_VERSION → offset ≡ be size64 x.offset
    → first ≡ none ++ version → second ≡ first ++ offset → all ≡ second ++ field nullable_string x.metadata → all ≡ committed_bytes x
unfolding encoded
value_parts x none first second all version offset empty v o a b c =
    c ∙ (λ i. (b ∙ (λ j. (a ∙ (λ m. empty m ++ v m)) j ++ o j)) i ++ field nullable_string x.metadata)
    ∙ append_assoc (be size16 VALUE_VERSION) (be size64 x.offset) (field nullable_string x.metadata)
    ∙ ap (λ l. be size16 VALUE_VERSION ++ (be size64 x.offset ++ l)) (sym (append-nil (field nullable_string x.metadata)))
