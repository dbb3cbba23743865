-- The parts of a FindCoordinator response, one after the other, are the encoding of its fields.
use Rattle.std.proofs.Common.{◌≡◌, ℕ, pos, List, [], ◌++◌, length, ap, append_assoc}
use Rattle.frame_fields.specs.Fields.{size16, size32, be, encoded}
use Rattle.responses.specs.FindCoordinator.{CoordinatorAnswer, find_coordinator_response, find_coordinator_value, find_coordinator_head_bytes, find_coordinator_port_bytes}

pub find_coordinator_parts : (a : CoordinatorAnswer) → encoded find_coordinator_response (find_coordinator_value a)
    ≡ find_coordinator_head_bytes a.code a.node_id (length a.host) ++ (a.host ++ find_coordinator_port_bytes a.port)
unfolding encoded
find_coordinator_parts a =
    let size = be size16 (pos (length a.host)) in
    ap (λ (x : List ℕ). be size16 a.code ++ (be size32 a.node_id ++ x)) (append_assoc size a.host (be size32 a.port ++ []))
