-- Rule. The kinds of imports. (This profile's.)
use Rattle.std.specs.Prelude.{ℕ, Bool, List, codes, Option, Some, None, if◌then◌else◌}
use Rattle.std.specs.Str.{bytes_eq}
use Rattle.stores.specs.declared.kind.Kind.{Kind}
use Rattle.stores.specs.declared.kind.Kind.TheVariants.{Accounts, Apps, Versions, Workunits}

abbrev pub kind_name : Kind → List ℕ
kind_name Accounts = codes "accounts"
kind_name Apps = codes "apps"
kind_name Versions = codes "versions"
kind_name Workunits = codes "workunits"

-- the kind with this name
abbrev pub kind_of : List ℕ → Option Kind
kind_of name =
    if bytes_eq name (codes "accounts") then Some Accounts
    else (if bytes_eq name (codes "apps") then Some Apps
    else (if bytes_eq name (codes "versions") then Some Versions
    else (if bytes_eq name (codes "workunits") then Some Workunits
    else None)))

-- the two kinds are equal
abbrev pub same_kind : Kind → Kind → Bool
same_kind a b = bytes_eq (kind_name a) (kind_name b)
