-- Frames and responses worked by hand.
use Rattle.std.proofs.Common.{◌≡◌, ℕ, pos, List, [], ◌∷◌, Some, None, refl, arith}
use Rattle.frame_fields.specs.declared.error.FrameError.TheVariants as frame
use Rattle.frame_fields.specs.Fields.{Fits, encoded}
use Rattle.member_frames.specs.declared.api.MemberApi.TheVariants.{JoinGroup0, Heartbeat0, Heartbeat1}
use Rattle.member_frames.specs.MemberRequests.MemberBodyValue.{join_group, heartbeat}
use Rattle.member_frames.specs.MemberRequests.{IsMemberRequest, IsMemberRefused}
use Rattle.member_frames.specs.MemberReplies.{member_response, code_response, code_value}

abbrev heartbeat_frame : List ℕ → List ℕ
heartbeat_frame more = 0 ∷ 12 ∷ 0 ∷ 0 ∷ 0 ∷ 0 ∷ 0 ∷ 7 ∷ 255 ∷ 255 ∷ 0 ∷ 1 ∷ 103 ∷ 0 ∷ 0 ∷ 1 ∷ 2 ∷ 0 ∷ 1 ∷ 109 ∷ more

pub heartbeat_read : IsMemberRequest (heartbeat_frame []) (record {
  api = Heartbeat0;
  correlation = pos 7;
  client = [];
  body = heartbeat (record { group = 103 ∷ []; generation = pos 258; member = 109 ∷ [] });
})
unfolding Fits encoded
heartbeat_read = (
  Heartbeat0,
  record { has_header = omega arith; has_api = (refl, refl) },
  (None, (103 ∷ [], (pos 258, (109 ∷ [], tt)))),
  record {
    fits = (tt, (record { sfits = omega arith }, (record { sfits = omega arith }, (record { sfits = omega arith }, tt))));
    parts = refl;
  },
  refl,
)

pub one_byte_more : IsMemberRefused frame.TrailingBytes (heartbeat_frame (0 ∷ []))
unfolding Fits encoded
one_byte_more = (
  Heartbeat0,
  record { has_header = omega arith; has_api = (refl, refl) },
  (None, (103 ∷ [], (pos 258, (109 ∷ [], tt)))),
  0 ∷ [],
  record {
    fits = (tt, (record { sfits = omega arith }, (record { sfits = omega arith }, (record { sfits = omega arith }, tt))));
    parts = refl;
  },
  omega arith,
)

abbrev join_frame : List ℕ
join_frame =
    0 ∷ 11 ∷ 0 ∷ 0 ∷ 0 ∷ 0 ∷ 0 ∷ 5 ∷ 0 ∷ 1 ∷ 99 ∷ 0 ∷ 1 ∷ 103 ∷ 0 ∷ 0 ∷ 39 ∷ 16 ∷ 0 ∷ 0 ∷ 0 ∷ 1 ∷ 107
    ∷ 0 ∷ 0 ∷ 0 ∷ 1 ∷ 0 ∷ 1 ∷ 114 ∷ 0 ∷ 0 ∷ 0 ∷ 1 ∷ 9 ∷ []

pub join_read : IsMemberRequest join_frame (record {
  api = JoinGroup0;
  correlation = pos 5;
  client = 99 ∷ [];
  body = join_group (record {
    group = 103 ∷ [];
    session = pos 10000;
    rebalance = pos 10000;
    member = [];
    kind = 107 ∷ [];
    protocols = record { name = 114 ∷ []; metadata = 9 ∷ [] } ∷ [];
  });
})
unfolding Fits encoded
join_read = (
  JoinGroup0,
  record { has_header = omega arith; has_api = (refl, refl) },
  (Some (99 ∷ []), (103 ∷ [], (pos 10000, ([], (107 ∷ [], ((114 ∷ [], (9 ∷ [], tt)) ∷ [], tt)))))),
  record {
    fits = (
      record { sfits = omega arith },
      (
        record { sfits = omega arith },
        (
          record { sfits = omega arith },
          (
            record { sfits = omega arith },
            (
              record { sfits = omega arith },
              ((record { sfits = omega arith }, ((record { sfits = omega arith }, (record { sfits = omega arith }, tt)), tt)), tt),
            ),
          ),
        ),
      ),
    );
    parts = refl;
  },
  refl,
)

pub told_in_version_0 : member_response Heartbeat0 (pos 7) code_response (code_value (pos 27)) ≡ 0 ∷ 0 ∷ 0 ∷ 6 ∷ 0 ∷ 0 ∷ 0 ∷ 7 ∷ 0 ∷ 27 ∷ []
unfolding encoded
told_in_version_0 = refl

pub told_in_version_1 : member_response Heartbeat1 (pos 7) code_response (code_value (pos 27)) ≡ 0 ∷ 0 ∷ 0 ∷ 10 ∷ 0 ∷ 0 ∷ 0 ∷ 7 ∷ 0 ∷ 0 ∷ 0 ∷ 0 ∷ 0 ∷ 27 ∷ []
unfolding encoded
told_in_version_1 = refl
