-- Texts that are read have lengths that their fields hold.
use Rattle.std.proofs.Common.{ℕ, List, [], ◌∷◌, length, Option, None, Some, sym, subst, arith}
use Rattle.std.specs.Prelude.{map}
use Rattle.std.specs.List.{AllByRecursion}
use Rattle.frame_fields.specs.Fields.{size16, Value, FitsLength, FieldFits, Fits}
use Rattle.frame_fields.specs.Types.{nullable_string, or_empty}
use Rattle.member_frames.specs.declared.api.MemberApi.{MemberApi}
use Rattle.member_frames.specs.declared.api.MemberApi.TheVariants.{JoinGroup0, JoinGroup1, JoinGroup2, SyncGroup0, SyncGroup1, Heartbeat0, Heartbeat1, LeaveGroup0, LeaveGroup1}
use Rattle.member_frames.specs.JoinGroup.{protocol_fields, protocol_value, join_group_fields_0, join_group_fields, join_group_request_0, join_group_request}
use Rattle.member_frames.specs.SyncGroup.{part_fields, part_value, sync_group_fields, sync_group_request}
use Rattle.member_frames.specs.Heartbeat.{heartbeat_fields, heartbeat_request}
use Rattle.member_frames.specs.LeaveGroup.{leave_group_fields, leave_group_request}
use Rattle.member_frames.specs.MemberRequests.MemberBodyValue.{join_group, sync_group, heartbeat, leave_group}
use Rattle.member_frames.specs.MemberRequests.{MemberRequestValue, IsMemberRequest, member_fields, member_body_fields, member_body_value}
use Rattle.member_frames.specs.ShortTexts.{IsShort, HasShortBody, IsOfShortTexts}

short : (text : List ℕ) → FitsLength size16 (length text) → IsShort text
short text fits = omega (arith, fits.sfits)

short_client : (client : Option (List ℕ)) → FieldFits nullable_string client → IsShort (or_empty client)
short_client None fits = omega arith
short_client (Some text) fits = short text fits

short_names : (ps : List (Value protocol_fields)) → AllByRecursion (Fits protocol_fields) ps → AllByRecursion (λ p. IsShort p.name) (map protocol_value ps)
unfolding Fits
short_names [] fits = tt
short_names (p ∷ ps) fits = (short p.0 fits.0.0, short_names ps fits.1)

short_ids : (ps : List (Value part_fields)) → AllByRecursion (Fits part_fields) ps → AllByRecursion (λ p. IsShort p.id) (map part_value ps)
unfolding Fits
short_ids [] fits = tt
short_ids (p ∷ ps) fits = (short p.0 fits.0.0, short_ids ps fits.1)

join_0_short : (v : Value join_group_fields_0) → Fits join_group_fields_0 v → HasShortBody (join_group (join_group_request_0 v))
unfolding Fits
join_0_short v fits =
    (short v.0 fits.0, short v.1.1.0 fits.1.1.0, short v.1.1.1.0 fits.1.1.1.0, short_names v.1.1.1.1.0 fits.1.1.1.1.0.1)

join_short : (v : Value join_group_fields) → Fits join_group_fields v → HasShortBody (join_group (join_group_request v))
unfolding Fits
join_short v fits =
    (short v.0 fits.0, short v.1.1.1.0 fits.1.1.1.0, short v.1.1.1.1.0 fits.1.1.1.1.0, short_names v.1.1.1.1.1.0 fits.1.1.1.1.1.0.1)

sync_short : (v : Value sync_group_fields) → Fits sync_group_fields v → HasShortBody (sync_group (sync_group_request v))
unfolding Fits
sync_short v fits = (short v.0 fits.0, short v.1.1.0 fits.1.1.0, short_ids v.1.1.1.0 fits.1.1.1.0.1)

heartbeat_short : (v : Value heartbeat_fields) → Fits heartbeat_fields v → HasShortBody (heartbeat (heartbeat_request v))
unfolding Fits
heartbeat_short v fits = (short v.0 fits.0, short v.1.1.0 fits.1.1.0)

leave_short : (v : Value leave_group_fields) → Fits leave_group_fields v → HasShortBody (leave_group (leave_group_request v))
unfolding Fits
leave_short v fits = (short v.0 fits.0, short v.1.0 fits.1.0)

body_short : (api : MemberApi) (v : Value (member_fields api)) → Fits (member_fields api) v → HasShortBody (member_body_value api v)
body_short JoinGroup0 v fits = join_0_short v fits
body_short JoinGroup1 v fits = join_short v fits
body_short JoinGroup2 v fits = join_short v fits
body_short SyncGroup0 v fits = sync_short v fits
body_short SyncGroup1 v fits = sync_short v fits
body_short Heartbeat0 v fits = heartbeat_short v fits
body_short Heartbeat1 v fits = heartbeat_short v fits
body_short LeaveGroup0 v fits = leave_short v fits
body_short LeaveGroup1 v fits = leave_short v fits

both_short : (api : MemberApi) (v : Value (member_body_fields api)) → Fits (member_body_fields api) v → IsShort (or_empty v.0) × HasShortBody (member_body_value api v.1)
unfolding Fits
both_short api v fits = (short_client v.0 fits.0, body_short api v.1 fits.1)

pub texts_short : (bytes : List ℕ) (q : MemberRequestValue) → IsMemberRequest bytes q → IsOfShortTexts q
texts_short bytes q (api, is, v, e, same) =
    let fits = both_short api v e.fits in
    subst (λ (r : MemberRequestValue). IsOfShortTexts r) (sym same) (record { client = fits.0; body = fits.1 })
