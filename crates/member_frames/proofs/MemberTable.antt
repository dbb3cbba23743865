-- The table of the requests of members, looked up by key and version.
use Rattle.std.proofs.Common.{◌≡◌, ◌≢◌, cond, ℤ, pos, false, Result, Ok, Err, refl, ap, ◌∙◌, arith}
use Rattle.std.specs.Ordering.{int_eq}
use Rattle.std.proofs.lemmas.Int.{ints}
use Rattle.frame_fields.specs.declared.error.FrameError.{FrameError}
use Rattle.frame_fields.specs.declared.error.FrameError.TheVariants.{UnknownApi, BadVersion}
use Rattle.member_frames.specs.declared.api.MemberApi.{MemberApi}
use Rattle.member_frames.specs.declared.api.MemberApi.TheVariants.{JoinGroup0, JoinGroup1, JoinGroup2, SyncGroup0, SyncGroup1, Heartbeat0, Heartbeat1, LeaveGroup0, LeaveGroup1}
use Rattle.member_frames.specs.MemberApis.{member_key, member_version, IsMemberApi, IsNoMemberApi}

-- of another key nothing is asked
other : (k l version w : ℤ) → int_eq k l ≡ false → k ≡ l → version ≢ w
other k l version w apart same = grind (arith, ints)

-- ---- another version of a request

pub no_join : (version : ℤ) → version ≢ pos 0 → version ≢ pos 1 → version ≢ pos 2 → IsNoMemberApi (pos 11) version BadVersion
no_join version not_0 not_1 not_2 = (JoinGroup0, refl, none)
  where
    none : (api : MemberApi) → pos 11 ≡ member_key api → version ≢ member_version api
    none JoinGroup0 same = not_0
    none JoinGroup1 same = not_1
    none JoinGroup2 same = not_2
    none Heartbeat0 same = other (pos 11) (pos 12) version (pos 0) refl same
    none Heartbeat1 same = other (pos 11) (pos 12) version (pos 1) refl same
    none LeaveGroup0 same = other (pos 11) (pos 13) version (pos 0) refl same
    none LeaveGroup1 same = other (pos 11) (pos 13) version (pos 1) refl same
    none SyncGroup0 same = other (pos 11) (pos 14) version (pos 0) refl same
    none SyncGroup1 same = other (pos 11) (pos 14) version (pos 1) refl same

pub no_heartbeat : (version : ℤ) → version ≢ pos 0 → version ≢ pos 1 → IsNoMemberApi (pos 12) version BadVersion
no_heartbeat version not_0 not_1 = (Heartbeat0, refl, none)
  where
    none : (api : MemberApi) → pos 12 ≡ member_key api → version ≢ member_version api
    none Heartbeat0 same = not_0
    none Heartbeat1 same = not_1
    none JoinGroup0 same = other (pos 12) (pos 11) version (pos 0) refl same
    none JoinGroup1 same = other (pos 12) (pos 11) version (pos 1) refl same
    none JoinGroup2 same = other (pos 12) (pos 11) version (pos 2) refl same
    none LeaveGroup0 same = other (pos 12) (pos 13) version (pos 0) refl same
    none LeaveGroup1 same = other (pos 12) (pos 13) version (pos 1) refl same
    none SyncGroup0 same = other (pos 12) (pos 14) version (pos 0) refl same
    none SyncGroup1 same = other (pos 12) (pos 14) version (pos 1) refl same

pub no_leave : (version : ℤ) → version ≢ pos 0 → version ≢ pos 1 → IsNoMemberApi (pos 13) version BadVersion
no_leave version not_0 not_1 = (LeaveGroup0, refl, none)
  where
    none : (api : MemberApi) → pos 13 ≡ member_key api → version ≢ member_version api
    none LeaveGroup0 same = not_0
    none LeaveGroup1 same = not_1
    none JoinGroup0 same = other (pos 13) (pos 11) version (pos 0) refl same
    none JoinGroup1 same = other (pos 13) (pos 11) version (pos 1) refl same
    none JoinGroup2 same = other (pos 13) (pos 11) version (pos 2) refl same
    none Heartbeat0 same = other (pos 13) (pos 12) version (pos 0) refl same
    none Heartbeat1 same = other (pos 13) (pos 12) version (pos 1) refl same
    none SyncGroup0 same = other (pos 13) (pos 14) version (pos 0) refl same
    none SyncGroup1 same = other (pos 13) (pos 14) version (pos 1) refl same

pub no_sync : (version : ℤ) → version ≢ pos 0 → version ≢ pos 1 → IsNoMemberApi (pos 14) version BadVersion
no_sync version not_0 not_1 = (SyncGroup0, refl, none)
  where
    none : (api : MemberApi) → pos 14 ≡ member_key api → version ≢ member_version api
    none SyncGroup0 same = not_0
    none SyncGroup1 same = not_1
    none JoinGroup0 same = other (pos 14) (pos 11) version (pos 0) refl same
    none JoinGroup1 same = other (pos 14) (pos 11) version (pos 1) refl same
    none JoinGroup2 same = other (pos 14) (pos 11) version (pos 2) refl same
    none Heartbeat0 same = other (pos 14) (pos 12) version (pos 0) refl same
    none Heartbeat1 same = other (pos 14) (pos 12) version (pos 1) refl same
    none LeaveGroup0 same = other (pos 14) (pos 13) version (pos 0) refl same
    none LeaveGroup1 same = other (pos 14) (pos 13) version (pos 1) refl same

-- ---- the look-up as a function

-- a request in its version, else what other versions give
abbrev with_version : (version : ℤ) → MemberApi → Result MemberApi FrameError → Result MemberApi FrameError
with_version version api others = cond (int_eq version (member_version api)) (Ok api) others

abbrev joins_in : (version : ℤ) → Result MemberApi FrameError
joins_in version =
    with_version version JoinGroup0 (with_version version JoinGroup1 (with_version version JoinGroup2 (Err BadVersion)))

abbrev two_in : (version : ℤ) → (first second : MemberApi) → Result MemberApi FrameError
two_in version first second = with_version version first (with_version version second (Err BadVersion))

abbrev with_key : (key : ℤ) → MemberApi → (found others : Result MemberApi FrameError) → Result MemberApi FrameError
with_key key api found others = cond (int_eq key (member_key api)) found others

abbrev pub find_member : (key version : ℤ) → Result MemberApi FrameError
find_member key version =
    with_key key JoinGroup0 (joins_in version)
    (with_key key Heartbeat0 (two_in version Heartbeat0 Heartbeat1)
    (with_key key LeaveGroup0 (two_in version LeaveGroup0 LeaveGroup1)
    (with_key key SyncGroup0 (two_in version SyncGroup0 SyncGroup1) (Err UnknownApi))))

finds_own : (api : MemberApi) → find_member (member_key api) (member_version api) ≡ Ok api
finds_own api = grind arith

pub found_member : (key version : ℤ) (api : MemberApi) → IsMemberApi key version api → find_member key version ≡ Ok api
found_member key version api is = (λ i. find_member (is.0 i) (is.1 i)) ∙ finds_own api

not_key : (key : ℤ) (api : MemberApi) (found others r : Result MemberApi FrameError) → key ≢ member_key api → others ≡ r → with_key key api found others ≡ r
not_key key api found others r apart is = grind (arith, ints)

no_member_key : (key version : ℤ) → ((api : MemberApi) → key ≢ member_key api) → find_member key version ≡ Err UnknownApi
no_member_key key version apart =
    not_key key JoinGroup0 _ _ _ (apart JoinGroup0)
    (not_key key Heartbeat0 _ _ _ (apart Heartbeat0)
    (not_key key LeaveGroup0 _ _ _ (apart LeaveGroup0)
    (not_key key SyncGroup0 _ _ _ (apart SyncGroup0) refl)))

not_version : (version : ℤ) (api : MemberApi) (others r : Result MemberApi FrameError) → version ≢ member_version api → others ≡ r → with_version version api others ≡ r
not_version version api others r apart is = grind (arith, ints)

no_joins : (version : ℤ) → ((api : MemberApi) → pos 11 ≡ member_key api → version ≢ member_version api) → find_member (pos 11) version ≡ Err BadVersion
no_joins version none =
    not_version version JoinGroup0 _ _ (none JoinGroup0 refl)
    (not_version version JoinGroup1 _ _ (none JoinGroup1 refl)
    (not_version version JoinGroup2 _ _ (none JoinGroup2 refl) refl))

neither : (version : ℤ) (first second : MemberApi) → version ≢ member_version first → version ≢ member_version second → two_in version first second ≡ Err BadVersion
neither version first second not_first not_second =
    not_version version first _ _ not_first (not_version version second _ _ not_second refl)

of_known : (version : ℤ) (known : MemberApi) → ((api : MemberApi) → member_key known ≡ member_key api → version ≢ member_version api) → find_member (member_key known) version ≡ Err BadVersion
of_known version JoinGroup0 none = no_joins version none
of_known version JoinGroup1 none = no_joins version none
of_known version JoinGroup2 none = no_joins version none
of_known version Heartbeat0 none = neither version Heartbeat0 Heartbeat1 (none Heartbeat0 refl) (none Heartbeat1 refl)
of_known version Heartbeat1 none = neither version Heartbeat0 Heartbeat1 (none Heartbeat0 refl) (none Heartbeat1 refl)
of_known version LeaveGroup0 none = neither version LeaveGroup0 LeaveGroup1 (none LeaveGroup0 refl) (none LeaveGroup1 refl)
of_known version LeaveGroup1 none = neither version LeaveGroup0 LeaveGroup1 (none LeaveGroup0 refl) (none LeaveGroup1 refl)
of_known version SyncGroup0 none = neither version SyncGroup0 SyncGroup1 (none SyncGroup0 refl) (none SyncGroup1 refl)
of_known version SyncGroup1 none = neither version SyncGroup0 SyncGroup1 (none SyncGroup0 refl) (none SyncGroup1 refl)

pub no_member : (key version : ℤ) (e : FrameError) → IsNoMemberApi key version e → find_member key version ≡ Err e
no_member key version UnknownApi apart = no_member_key key version apart
no_member key version BadVersion (known, is, none) =
    ap (λ (k : ℤ). find_member k version) is ∙ of_known version known (λ api same. none api (is ∙ same))
no_member key version e h = absurd h
