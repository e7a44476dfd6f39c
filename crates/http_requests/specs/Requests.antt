-- Rule. Messages as the program makes them: a request line, fields and a body (RFC 9112, sections 3, 5 and 6). (The routes and the
-- operator's key are this profile's.)
use Rattle.std.specs.Prelude.{ℕ, List, ◌∷◌, ◌++◌, length, codes, decimal}

abbrev pub call_head : ℕ → List ℕ
call_head size = codes "POST /scheduler HTTP/1.1\r\ncontent-length: " ++ (decimal size ++ codes "\r\n\r\n")

abbrev pub call_request : List ℕ → List ℕ
call_request body = call_head (length body) ++ body

abbrev pub import_head : List ℕ → List ℕ → List ℕ → ℕ → List ℕ
import_head key kind batch size =
    codes "POST /import/" ++ (kind ++ 47 ∷ (batch ++ (codes " HTTP/1.1\r\nx-operator-key: " ++ (key ++ (codes "\r\ncontent-length: "
    ++ (decimal size ++ codes "\r\n\r\n"))))))

abbrev pub import_request : List ℕ → List ℕ → List ℕ → List ℕ → List ℕ
import_request key kind batch text = import_head key kind batch (length text) ++ text

abbrev pub tick_request : List ℕ → List ℕ
tick_request key = codes "POST /tick HTTP/1.1\r\nx-operator-key: " ++ (key ++ codes "\r\n\r\n")

abbrev pub statement_request : List ℕ → List ℕ → List ℕ
statement_request key host = codes "GET /hosts/" ++ (host ++ (codes " HTTP/1.1\r\nx-operator-key: " ++ (key ++ codes "\r\n\r\n")))
