-- Rule. The methods that routes take.
use Rattle.std.specs.Prelude.{ℕ, List, codes}
use Rattle.http_responses.specs.declared.method.Method.{Method}
use Rattle.http_responses.specs.declared.method.Method.TheVariants.{Get, Post}

-- The name of a method. (RFC 9110, sections 9.3.1 and 9.3.3.)
abbrev pub method_name : Method → List ℕ
method_name Get = codes "GET"
method_name Post = codes "POST"
