-- The parts of a FindCoordinator response are the encoding of its answer; the numbers are passed on by value.
use Rattle.std.proofs.Common.{◌≡◌, ℕ, ℤ, List, ◌++◌, length, sym, ◌∙◌, append_assoc}
use Rattle.frame_fields.specs.Fields.{encoded}
use Rattle.responses.specs.FindCoordinator.{CoordinatorAnswer, find_coordinator_response, find_coordinator_value, find_coordinator_head_bytes, find_coordinator_port_bytes}

pub parts_are : (a : CoordinatorAnswer) (code node_id port : ℤ) (head behind : List ℕ) → code ≡ a.code → node_id ≡ a.node_id → port ≡ a.port
    → head ≡ find_coordinator_head_bytes code node_id (length a.host) → behind ≡ find_coordinator_port_bytes port
    → ((a : CoordinatorAnswer) → encoded find_coordinator_response (find_coordinator_value a) ≡ find_coordinator_head_bytes a.code a.node_id (length a.host) ++ (a.host ++ find_coordinator_port_bytes a.port))
    → head ++ a.host ++ behind ≡ encoded find_coordinator_response (find_coordinator_value a)
parts_are a code node_id port head behind same_code same_id same_port first last law =
    append_assoc head a.host behind
    ∙ (λ i. first i ++ (a.host ++ last i))
    ∙ (λ i. find_coordinator_head_bytes (same_code i) (same_id i) (length a.host) ++ (a.host ++ find_coordinator_port_bytes (same_port i)))
    ∙ sym (law a)
