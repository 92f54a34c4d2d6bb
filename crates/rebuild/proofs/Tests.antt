-- A call's answer that the code tests turned round, `if !f(x)`: what the test says of the definition.
use mathlib.Core.Path.{◌≡◌, sym, ◌∙◌}
use mathlib.Core.Bool.{Bool, true, false}

module _ {answer definition : Bool} (e : answer ≡ definition) where
  pub holds : answer ≡ true → definition ≡ true
  holds h = sym e ∙ h

  pub fails : answer ≡ false → definition ≡ false
  fails h = sym e ∙ h
