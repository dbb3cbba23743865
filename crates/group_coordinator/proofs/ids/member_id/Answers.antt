use Rattle.group_coordinator.proofs.Naming.{id_made}
use Rattle.group_coordinator.proofs.ids.member_id.Goals as goal

pub returns : goal.returns
returns g c =
    id_made c.args.client.now c.args.start c.args.number c.client_name.result.now c.hex_digits.result c.hex_digits-2.result _ _ _ _ _ c.client_name.ensures c.hex_digits.ensures c.hex_digits-2.ensures
    c.in_ok-id.ensures.items c.in_ok-extend_from_slice.ensures.items c.in_ok-extend_from_slice-2.ensures.items c.in_ok-extend_from_slice-3.ensures.items c.in_ok-extend_from_slice-4.ensures.items
