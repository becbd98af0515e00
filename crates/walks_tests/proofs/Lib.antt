mod Around
