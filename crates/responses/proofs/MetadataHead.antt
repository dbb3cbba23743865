-- The bytes before the topics of a Metadata response, around the broker's host.
use Rattle.std.proofs.Common.{◌≡◌, ℕ, List, [], ◌++◌, length, sym, ap, ◌∙◌, append_assoc, append-nil}
use Rattle.std.specs.Prelude.{ℤ, pos, negsuc}
use Rattle.frame_fields.specs.Fields.{size16, size32, be, encoded}
use Rattle.responses.specs.Metadata.{metadata_head}

behind_host : (host broker more : List ℕ) → host ++ (broker ++ more) ≡ ((host ++ broker) ++ []) ++ more
behind_host host broker more = sym (ap (λ (x : List ℕ). x ++ more) (append-nil (host ++ broker)) ∙ append_assoc host broker more)

head_parts : (node_id : ℤ) (host : List ℕ) (port : ℕ) (controller : ℤ) (count : ℕ)
    → (be size32 (pos 1) ++ (be size32 node_id ++ be size16 (pos (length host))))
    ++ (host ++ (be size32 (pos port) ++ (be size16 (negsuc 0) ++ (be size32 controller ++ be size32 (pos count)))))
    ≡ metadata_head node_id host port controller count
unfolding encoded
head_parts node_id host port controller count =
    ap (λ (x : List ℕ). be size32 (pos 1) ++ (be size32 node_id ++ (be size16 (pos (length host)) ++ x)))
    (behind_host host (be size32 (pos port) ++ be size16 (negsuc 0)) (be size32 controller ++ be size32 (pos count)))

-- the two numbers are passed on by value before they are written
pub head_around : (before host after : List ℕ) (node_id controller sent_id sent_controller : ℤ) (port count : ℕ) → sent_id ≡ node_id → sent_controller ≡ controller
    → before ≡ be size32 (pos 1) ++ (be size32 sent_id ++ be size16 (pos (length host)))
    → after ≡ be size32 (pos port) ++ (be size16 (negsuc 0) ++ (be size32 sent_controller ++ be size32 (pos count)))
    → before ++ (host ++ after) ≡ metadata_head node_id host port controller count
head_around before host after node_id controller sent_id sent_controller port count same_id same_controller first last =
    (λ i. first i ++ (host ++ last i))
    ∙ (λ i. (be size32 (pos 1) ++ (be size32 (same_id i) ++ be size16 (pos (length host)))) ++ (host ++ (be size32 (pos port) ++ (be size16 (negsuc 0) ++ (be size32 (same_controller i) ++ be size32 (pos count))))))
    ∙ head_parts node_id host port controller count
