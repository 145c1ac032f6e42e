-- How a fault is printed.
use Rattle.std.specs.Prelude.{ℕ, List, ◌++◌, codes}
use Rattle.json_walk.specs.Texts.{kind_text}
use Rattle.cluster.specs.Inventory.{Inventory, name_of}
use Rattle.plan_json.specs.declared.fault.PlanFault.{PlanFault}
use Rattle.plan_json.specs.declared.fault.PlanFault.TheVariants.{TooLong, NotJson, Field, NoSuch, Twice, NotLegal, MustAct, Memory}

-- the path or the element's name, where there is one, and what is wrong
unfoldable pub fault_text : Inventory → PlanFault → List ℕ
fault_text k TooLong = codes "too long"
fault_text k NotJson = codes "not json"
fault_text k (Field f) = f.path ++ codes " " ++ kind_text f.kind
fault_text k (NoSuch p) = p ++ codes " " ++ codes "no such name"
fault_text k (Twice p) = p ++ codes " " ++ codes "twice"
fault_text k (NotLegal p) = p ++ codes " " ++ codes "not legal"
fault_text k (MustAct e) = name_of k e ++ codes " " ++ codes "must act"
fault_text k Memory = codes "out of memory"
