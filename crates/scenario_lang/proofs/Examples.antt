-- Texts and what they are, computed.
use Rattle.std.proofs.Common.{◌≡◌, false, ℕ, List, [], ◌∷◌, ◌++◌, None, Ok, Err, Result, refl, codes}
use Rattle.mesh_text.specs.Names.{is_cluster_name, is_part_name}
use Rattle.mesh_text.specs.Numbers.{number_of}
use Rattle.mesh_text.specs.Escapes.{unescaped}
use Rattle.mesh_text.specs.Addresses.{address_of, ipv4_of, ipv6_of}
use Rattle.mesh_text.specs.declared.ip.Ip.TheVariants.{V4}
use Rattle.record_values.specs.Labels.{label_of}
use Rattle.record_reading.specs.Identity.{identity_of}
use Rattle.key_paths.specs.declared.hop.Hop.TheVariants.{State}
use Rattle.scenario_lang.specs.declared.kinds.LineKind.{LineKind}
use Rattle.scenario_lang.specs.declared.kinds.LineKind.TheVariants as kind
use Rattle.scenario_lang.specs.declared.kinds.Mode.TheVariants as mode
use Rattle.scenario_lang.specs.declared.scenario.Action.TheVariants as action
use Rattle.scenario_lang.specs.declared.scenario.Count.TheVariants as count
use Rattle.scenario_lang.specs.declared.scenario.LinkName.TheVariants as link
use Rattle.scenario_lang.specs.declared.scenario.Moment.TheVariants as moment
use Rattle.scenario_lang.specs.declared.scenario.RawWrite.TheVariants as raw
use Rattle.scenario_lang.specs.declared.scenario.StoreOf.TheVariants as store
use Rattle.scenario_lang.specs.declared.kinds.LineFault.{LineFault}
use Rattle.scenario_lang.specs.Split.{lines, words}
use Rattle.scenario_lang.specs.Table.{row, verb_of}
use Rattle.scenario_lang.specs.Lines.{Said, row_said, words_said, line_said, lines_said, scenario_of}

fault : ℕ → LineKind → Result Said LineFault
fault n k = Err (record { line = n; kind = k })

head : List ℕ → List ℕ
head more = codes "mesh 1\nlocal home 9\n# x\n\nremote  east 1 direct \n" ++ more

whole : scenario_of mode.Step (head (codes "node east n1 10.0.0.1\nexport east all\nraw east delete a%41\ntick 5\n")) ≡ Ok (record {
  local = record { name = codes "home"; number = 9 };
  lease = None;
  remotes = record { name = codes "east"; number = 1; hop = State } ∷ [];
  actions = action.Node 0 (codes "n1") (V4 167772161 ∷ []) ∷ action.Export 0 count.All ∷ action.Raw 0 (raw.Delete (codes "aA")) ∷ action.Tick 5 ∷ [];
})
unfolding fault head words lines row verb_of row_said words_said line_said lines_said scenario_of is_cluster_name is_part_name number_of address_of ipv4_of ipv6_of unescaped identity_of label_of
whole = refl

nothing : scenario_of mode.Step [] ≡ fault 1 kind.Header
unfolding fault head words lines row verb_of row_said words_said line_said lines_said scenario_of is_cluster_name is_part_name number_of address_of ipv4_of ipv6_of unescaped identity_of label_of
nothing = refl

early : scenario_of mode.Step (codes "mesh 1\n") ≡ fault 2 kind.Header
unfolding fault head words lines row verb_of row_said words_said line_said lines_said scenario_of is_cluster_name is_part_name number_of address_of ipv4_of ipv6_of unescaped identity_of label_of
early = refl

cut : scenario_of mode.Step (head (codes "report")) ≡ fault 6 kind.Words
unfolding fault head words lines row verb_of row_said words_said line_said lines_said scenario_of is_cluster_name is_part_name number_of address_of ipv4_of ipv6_of unescaped identity_of label_of
cut = refl

order : scenario_of mode.Step (codes "mesh 1\nlocal home 9\nremote home 900 direct\n") ≡ fault 3 kind.Number
unfolding fault head words lines row verb_of row_said words_said line_said lines_said scenario_of is_cluster_name is_part_name number_of address_of ipv4_of ipv6_of unescaped identity_of label_of
order = refl

again : scenario_of mode.Step (codes "mesh 1\nlocal home 9\nremote home 1 direct\n") ≡ fault 3 kind.Repeated
unfolding fault head words lines row verb_of row_said words_said line_said lines_said scenario_of is_cluster_name is_part_name number_of address_of ipv4_of ipv6_of unescaped identity_of label_of
again = refl

late : scenario_of mode.Step (head (codes "report\nlease 9\n")) ≡ fault 7 kind.Header
unfolding fault head words lines row verb_of row_said words_said line_said lines_said scenario_of is_cluster_name is_part_name number_of address_of ipv4_of ipv6_of unescaped identity_of label_of
late = refl

unknown : scenario_of mode.Step (head (codes "node west n1 x\n")) ≡ fault 6 kind.UnknownCluster
unfolding fault head words lines row verb_of row_said words_said line_said lines_said scenario_of is_cluster_name is_part_name number_of address_of ipv4_of ipv6_of unescaped identity_of label_of
unknown = refl

again_and_again : scenario_of mode.Step (head (codes "turn agent east all\nturn agent east 2\ncompact home 7\nlink east agent down\nfail east exporter 0 after\nrestart agent\n")) ≡ Ok (record {
  local = record { name = codes "home"; number = 9 };
  lease = None;
  remotes = record { name = codes "east"; number = 1; hop = State } ∷ [];
  actions = action.Turn 0 count.All ∷ action.Turn 0 (count.Of 2) ∷ action.Compact store.Local 7 ∷ action.Link 0 link.Agent false ∷ action.Fail 0 link.Exporter 0 moment.After ∷ action.RestartAgent ∷ [];
})
unfolding fault head words lines row verb_of row_said words_said line_said lines_said scenario_of is_cluster_name is_part_name number_of address_of ipv4_of ipv6_of unescaped identity_of label_of
again_and_again = refl

no_such_link : scenario_of mode.Step (head (codes "link east remote up\n")) ≡ fault 6 kind.Mode
unfolding fault head words lines row verb_of row_said words_said line_said lines_said scenario_of is_cluster_name is_part_name number_of address_of ipv4_of ipv6_of unescaped identity_of label_of
no_such_link = refl

no_such_store : scenario_of mode.Step (head (codes "compact west 0\n")) ≡ fault 6 kind.UnknownCluster
unfolding fault head words lines row verb_of row_said words_said line_said lines_said scenario_of is_cluster_name is_part_name number_of address_of ipv4_of ipv6_of unescaped identity_of label_of
no_such_store = refl

too_late : scenario_of (mode.Run 4) (head (codes "restart agent\ntick 5\nrestart agent\ntick 5\n")) ≡ fault 8 kind.Mode
unfolding fault head words lines row verb_of row_said words_said line_said lines_said scenario_of is_cluster_name is_part_name number_of address_of ipv4_of ipv6_of unescaped identity_of label_of
too_late = refl

threads : scenario_of (mode.Run 4) (head (codes "tick 5\n# and no settle\n")) ≡ fault 6 kind.Mode
unfolding fault head words lines row verb_of row_said words_said line_said lines_said scenario_of is_cluster_name is_part_name number_of address_of ipv4_of ipv6_of unescaped identity_of label_of
threads = refl
