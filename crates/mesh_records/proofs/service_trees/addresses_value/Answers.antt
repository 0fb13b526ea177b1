use Rattle.std.proofs.Common.{◌≡◌, ◌≤◌, ℕ, List, length, map, sym, ap, ◌∙◌, subst}
use Rattle.std.specs.List.{AllByRecursion}
use Rattle.serde_json.specs.Data.{object}
use Rattle.serde_json.specs.View.{members_view}
use Rattle.serde_json.proofs.Views.{view-Object}
use Rattle.mesh_text.specs.Addresses.{address_text}
use Rattle.record_values.specs.Values.{BackendPort}
use Rattle.record_values.specs.Backends.{IsBackend}
use Rattle.mesh_records.specs.Trees.{by_address, ports_under_address, put_all, same_address}
use Rattle.mesh_records.proofs.AddressGroups.{nothing_left, one_more_address, same_address-within, split_all}
use Rattle.mesh_records.proofs.service_trees.addresses_value.Goals as goal

pub split_at-requires : goal.split_at-requires
split_at-requires c =
    subst (λ (n : ℕ). n ≤ length c.loop-first.rest.now) (sym c.same_address.ensures) (same_address-within c.first-in-Some.inside.ip c.loop-first.rest.now)

pub returns-clause-tree : goal.returns-clause-tree
returns-clause-tree c =
    view-Object c.loop-first.map
    ∙ ap object (ap (λ (rest : List BackendPort). put_all (members_view c.loop-first.map.entries) (map ports_under_address (by_address rest))) (sym (nothing_left c.loop-first.rest.now c.in_default.ensures.value))
    ∙ c.loop-first.invariant.members)

pub loop-first-preserved : goal.loop-first-preserved
loop-first-preserved c =
    let rest = c.loop-first.rest.now in
    let many : c.same_address.result ≡ same_address c.in-Some.first.now.ip rest =
    c.same_address.ensures ∙ ap (λ (b : BackendPort). same_address b.ip rest) c.first-in-Some.view_is in
    let key : c.as_str.result.now ≡ address_text c.in-Some.first.now.ip =
    c.as_str.ensures.value ∙ c.in_ok-address.ensures.text ∙ ap (λ (b : BackendPort). address_text b.ip) c.first-in-Some.view_is in
    record {
      members =
          one_more_address (members_view c.loop-first.map.entries) _ rest _ _ c.in-Some.first.now c.same_address.result _ _
          c.in-Some.ensures.value many c.split_at.ensures.front c.split_at.ensures.back key c.in_ok-ports.ensures.tree c.in_ok-put.ensures.ok
          ∙ c.loop-first.invariant.members;
      fit = λ h. c.loop-first.invariant.fit (split_all IsBackend c.same_address.result rest
          (subst (AllByRecursion IsBackend) c.split_at.ensures.front c.in_ok-ports.ensures.fit) (subst (AllByRecursion IsBackend) c.split_at.ensures.back h));
    }
