-- The request of the first frame that is held.
use Rattle.std.proofs.Common.{◌≡◌, List, ℕ, subst}
use Rattle.frame_fields.specs.Frames.{IsFirstFrame, IsIncomplete, SizeFault}
use Rattle.frame_fields.specs.declared.error.FrameError.{FrameError}
use Rattle.frame_fields.proofs.FramesCut.{first_not_incomplete, first_not_refused, first_once}
use Rattle.request_frames.specs.Requests.{RequestValue, IsRefused, IsRequest}
use Rattle.request_frames.proofs.OneOutcome.{never_both, one_request}

module _ (held frame rest : List ℕ) (q : RequestValue) (first : IsFirstFrame frame held rest) (reads : IsRequest frame q) where
  pub is_short : IsIncomplete held → ⊥
  is_short short = first_not_incomplete frame held rest first short

  pub has_no_size : (e : FrameError) → SizeFault e held → ⊥
  has_no_size e fault = first_not_refused frame held rest e first fault

  module _ (found left : List ℕ) (there : IsFirstFrame found held left) where
    pub is_none : (e : FrameError) → IsRefused e found → ⊥
    is_none e refused = never_both frame q e reads (subst (IsRefused e) (first_once found frame held left rest there first).0 refused)

    pub is_that : (r : RequestValue) → IsRequest found r → r ≡ q
    is_that r is = one_request frame r q (subst (λ (bytes : List ℕ). IsRequest bytes r) (first_once found frame held left rest there first).0 is) reads
