-- What a report of a group keeps.
use Rattle.std.specs.Prelude.{List, refl}
use Rattle.std.specs.Coded.{Coded, code_by, coded×, coded_list}
use Rattle.cast_message.specs.declared.config.Config.{Config}
use Rattle.cast_node.specs.declared.report.NodeReport.{NodeReport}

pub record Group : Type 0 where
  pub config : Config
  pub reports : List NodeReport

abbrev pub group_code : Coded Config → Coded NodeReport → Coded Group
group_code config report =
    code_by (Config × List NodeReport) (coded× config (coded_list report))
    (λ g. (g.config, g.reports)) (λ p. record { config = p.0; reports = p.1 }) (λ _. refl)
